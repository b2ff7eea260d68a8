-- The least of the leads' start tags is that of all that wait. Assumes nothing.
use Rattle.std.proofs.Common.{◌≡◌, ℕ, zero, suc, ◌≤◌, min, ltb, List, [], ◌∷◌, ◌++◌, map, length, sym, refl, ap, subst, ⊎_elim, arith}
use Rattle.std.specs.List.{ContainsAt as Has, AllByRecursion}
use Rattle.std.proofs.ByRecursion.{All-append, All-map, All-weaker, has_append_right}
use Rattle.std.proofs.lemmas.Bool.{and_parts, cases_lt, eqb-true, ltb-true, or_cases}
use Rattle.heap.proofs.Sorting.{First, Ordered}
use Rattle.lanes.specs.Records.{by_start}
use Rattle.lanes.specs.Waits.{all_starts, IsLeast, least, starts}
use Rattle.lanes.specs.declared.records.Request.{Request}

has_head : (n : ℕ) (ns : List ℕ) (m : ℕ) → m ≡ n → Has (n ∷ ns) m
has_head n ns m e = (0, omega arith, λ d. sym e)

has_tail : (n : ℕ) (ns : List ℕ) (m : ℕ) → Has ns m → Has (n ∷ ns) m
has_tail n ns m h = (suc h.0, omega (arith, h.1), h.2)

least_under : (v : ℕ) (ns : List ℕ) → AllByRecursion (λ n. least v ns ≤ n) ns
least_under v [] = tt
least_under v (n ∷ ns) = (omega arith, All-weaker (λ m. least n ns ≤ m) (λ m. min n (least n ns) ≤ m) (λ m l. omega (arith, l)) ns (least_under n ns))

least_reached : (v n : ℕ) (ns : List ℕ) → Has (n ∷ ns) (least v (n ∷ ns))
least_reached v n [] = has_head n [] (min n n) (omega arith)
least_reached v n (m ∷ ns) = ⊎_elim
    (λ l. has_head n (m ∷ ns) (min n (least n (m ∷ ns))) (omega (arith, l)))
    (λ l. has_tail n (m ∷ ns) (min n (least n (m ∷ ns))) (subst (Has (m ∷ ns)) (omega (arith, l)) (least_reached n m ns)))
    (cases_lt n (least n (m ∷ ns)))

start_low : (x y : Request) → First by_start x y → x.start ≤ y.start
start_low x y h = ⊎_elim (λ l. omega (arith, ltb-true x.start y.start l)) (λ k. omega (arith, eqb-true x.start y.start (and_parts _ _ k).0)) (or_cases (ltb x.start y.start) _ h)

all_over : (b : ℕ) (ls : List (List Request)) → AllByRecursion (λ n. b ≤ n) (starts ls) → AllByRecursion (Ordered by_start) ls → AllByRecursion (λ n. b ≤ n) (all_starts ls)
all_over b [] h o = tt
all_over b ([] ∷ ls) h o = all_over b ls h o.1
all_over b ((r ∷ rs) ∷ ls) h o = (
  h.0,
  All-append (λ n. b ≤ n) (map (λ (q : Request). q.start) rs) (all_starts ls)
      (All-map (λ n. b ≤ n) (λ (q : Request). q.start) rs (All-weaker (First by_start r) (λ (q : Request). b ≤ q.start) (λ q f. omega (arith, start_low r q f, h.0)) rs o.0.0))
      (all_over b ls h.1 o.1),
)

has_all : (ls : List (List Request)) (m : ℕ) → Has (starts ls) m → Has (all_starts ls) m
has_all [] m h = h
has_all ([] ∷ ls) m h = has_all ls m h
has_all ((r ∷ rs) ∷ ls) m (zero, l, h) = (zero, omega arith, h)
has_all ((r ∷ rs) ∷ ls) m (suc k, l, h) = has_append_right (map (λ (q : Request). q.start) (r ∷ rs)) (all_starts ls) m (has_all ls m (k, omega (arith, l), h))

some_start : (n : ℕ) (ns : List ℕ) → n ∷ ns ≡ [] → ⊥
some_start n ns e = omega (arith, ap length e)

pub least_stands_lem : (v : ℕ) (ls : List (List Request)) → AllByRecursion (Ordered by_start) ls → IsLeast v (all_starts ls) (least v (starts ls))
least_stands_lem v ls o =
    record {
      kept = none ls;
      under = all_over (least v (starts ls)) ls (least_under v (starts ls)) o;
      reached = λ some. has_all ls (least v (starts ls)) (one (starts ls) (λ e. some (empty ls e)));
    }
  where
    none : (ls : List (List Request)) → all_starts ls ≡ [] → least v (starts ls) ≡ v
    none [] e = refl
    none ([] ∷ ls) e = none ls e
    none ((r ∷ rs) ∷ ls) e = absurd (some_start r.start (map (λ (q : Request). q.start) rs ++ all_starts ls) e)

    empty : (ls : List (List Request)) → starts ls ≡ [] → all_starts ls ≡ []
    empty [] e = refl
    empty ([] ∷ ls) e = empty ls e
    empty ((r ∷ rs) ∷ ls) e = absurd (some_start r.start (starts ls) e)

    one : (ns : List ℕ) → (ns ≡ [] → ⊥) → Has ns (least v ns)
    one [] some = absurd (some refl)
    one (n ∷ ns) some = least_reached v n ns
