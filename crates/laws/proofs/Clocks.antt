-- Virtual time against the start tags. Assumes nothing.
use Rattle.std.proofs.Common.{◌≡◌, ℕ, ◌≤◌, min, List, [], ◌∷◌, ◌++◌, map, sum_by, sym, refl, ap, subst, ⊎_elim, arith}
use Rattle.std.specs.List.{flat_map, AllByRecursion}
use Rattle.std.proofs.lemmas.List.{map-append}
use Rattle.std.proofs.lemmas.List.Sums.{sum_by-cons, sum_by-append}
use Rattle.std.proofs.lemmas.Bool.{or_cases, and_parts, ltb-true, eqb-true}
use Rattle.heap.proofs.Sorting.{First, Ordered}
use Rattle.shares.specs.Events as share
use Rattle.shares.proofs.Shuffles.{sum_by-map}
use Rattle.lanes.specs.Lanes.{starts, least}
use Rattle.lanes.specs.Records.{by_start}
use Rattle.books.specs.Model.{waiting}
use Rattle.lanes.specs.declared.records.Request.{Request}
use Rattle.laws.specs.Steps.{request_of, waiting_of}

pub waiting_sums : (g : share.Request → ℕ) (ls : List (List Request)) → sum_by g (waiting_of ls) ≡ waiting (λ r. g (request_of r)) ls
waiting_sums g [] = refl
waiting_sums g (w ∷ ls) =
    let rest = waiting_sums g ls in
    omega (arith, rest, ap (sum_by g) (map-append request_of w (flat_map (λ v. v) ls)), sum_by-append g (map request_of w) (waiting_of ls), sum_by-map request_of g w, sum_by-cons (sum_by (λ (r : Request). g (request_of r))) w ls)

pub least_under : (v : ℕ) (ns : List ℕ) → AllByRecursion (λ n. least v ns ≤ n) ns
least_under v [] = tt
least_under v (n ∷ ns) = (omega arith, all_up (least n ns) (min n (least n ns)) ns (omega arith) (least_under n ns))
  where
    all_up : (a b : ℕ) (ms : List ℕ) → b ≤ a → AllByRecursion (λ m. a ≤ m) ms → AllByRecursion (λ m. b ≤ m) ms
    all_up a b [] l h = tt
    all_up a b (m ∷ ms) l h = (omega (arith, l, h.0), all_up a b ms l h.1)

pub least_over : (b v : ℕ) (ns : List ℕ) → b ≤ v → AllByRecursion (λ n. b ≤ n) ns → b ≤ least v ns
least_over b v [] l h = l
least_over b v (n ∷ ns) l h = omega (arith, h.0, least_over b n ns h.0 h.1)

-- what is over each lead is over all that wait
start_le : (x y : Request) → First by_start x y → x.start ≤ y.start
start_le x y h = ⊎_elim (λ l. let m = ltb-true x.start y.start l in omega (arith, m)) (λ k. let p = and_parts _ _ k in omega (arith, eqb-true x.start y.start p.0)) (or_cases _ _ h)

all_append : (b : ℕ) (xs ys : List share.Request) → AllByRecursion (λ (q : share.Request). b ≤ q.start) xs → AllByRecursion (λ (q : share.Request). b ≤ q.start) ys → AllByRecursion (λ (q : share.Request). b ≤ q.start) (xs ++ ys)
all_append b [] ys p q = q
all_append b (x ∷ xs) ys p q = (p.0, all_append b xs ys p.1 q)

lane_over : (b : ℕ) (x : Request) (xs : List Request) → b ≤ x.start → AllByRecursion (First by_start x) xs → AllByRecursion (λ (q : share.Request). b ≤ q.start) (map request_of xs)
lane_over b x [] l h = tt
lane_over b x (y ∷ ys) l h = (omega (arith, l, start_le x y h.0), lane_over b x ys l h.1)

pub all_over : (b : ℕ) (ls : List (List Request)) → AllByRecursion (λ n. b ≤ n) (starts ls) → AllByRecursion (Ordered by_start) ls → AllByRecursion (λ (q : share.Request). b ≤ q.start) (waiting_of ls)
all_over b [] h o = tt
all_over b ([] ∷ ls) h o = all_over b ls h o.1
all_over b ((x ∷ xs) ∷ ls) h o =
    subst (AllByRecursion (λ (q : share.Request). b ≤ q.start)) (sym (map-append request_of (x ∷ xs) (flat_map (λ v. v) ls)))
    (all_append b (map request_of (x ∷ xs)) (waiting_of ls) (h.0, lane_over b x xs h.0 o.0.0) (all_over b ls h.1 o.1))

-- and back
drop_all : (b : ℕ) (xs ys : List share.Request) → AllByRecursion (λ (q : share.Request). b ≤ q.start) (xs ++ ys) → AllByRecursion (λ (q : share.Request). b ≤ q.start) ys
drop_all b [] ys h = h
drop_all b (x ∷ xs) ys h = drop_all b xs ys h.1

pub heads_over : (b : ℕ) (ls : List (List Request)) → AllByRecursion (λ (q : share.Request). b ≤ q.start) (waiting_of ls) → AllByRecursion (λ n. b ≤ n) (starts ls)
heads_over b [] h = tt
heads_over b ([] ∷ ls) h = heads_over b ls h
heads_over b ((x ∷ xs) ∷ ls) h =
    let k = subst (AllByRecursion (λ (q : share.Request). b ≤ q.start)) (map-append request_of (x ∷ xs) (flat_map (λ v. v) ls)) h in
    (k.0, heads_over b ls (drop_all b (map request_of (x ∷ xs)) (waiting_of ls) k))
