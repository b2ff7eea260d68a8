-- The leads of the lanes, and the least of their start tags. Assumes nothing.
use Rattle.std.proofs.Common.{◌≡◌, ℕ, suc, ◌<◌, ◌≤◌, true, cond, eqb, ltb, List, [], ◌∷◌, length, get_or, Some, None, sum_by, Option, sym, refl, ap, ◌∙◌, ⊎_elim, arith}
use Rattle.std.proofs.lemmas.List.Sums.{sum_by-cons}
use Rattle.std.proofs.lemmas.Bool.{cases_eq, cases_lt, eq-eqb, ne_eqb, le-ltb, lt-ltb, ltb-true, cond-true, cond-false, or_cases, and_parts, eqb-true}
use Rattle.heap.specs.Fixed.{Leads}
use Rattle.heap.specs.Heaps.{Least}
use Rattle.lanes.specs.Records.{lead_upto}
use Rattle.lanes.specs.Waits.{starts, least, leads_from, start_of, Tied}
use Rattle.lanes.specs.declared.records.Lead.{Lead}
use Rattle.lanes.specs.declared.records.Request.{Request}

pub count_length : {X : Type 0} (xs : List X) → sum_by (λ _. 1) xs ≡ length xs
count_length [] = refl
count_length (x ∷ xs) = omega (arith, sum_by-cons (λ _. 1) x xs, count_length xs)

-- the leads' start tags
pub sums_starts : (g : ℕ → ℕ) (k : ℕ) (ls : List (List Request)) → sum_by (λ (l : Lead). g l.start) (leads_from k ls) ≡ sum_by g (starts ls)
sums_starts g k [] = refl
sums_starts g k ([] ∷ ls) = sums_starts g (suc k) ls
sums_starts g k ((r ∷ rs) ∷ ls) = omega (arith, sums_starts g (suc k) ls, sum_by-cons (λ (l : Lead). g l.start) (record { start = r.start; lane = k }) (leads_from (suc k) ls), sum_by-cons g r.start (starts ls))

pub tied_starts : (held : List Lead) (ls : List (List Request)) → Tied held ls → (g : ℕ → ℕ) → sum_by (λ (l : Lead). g l.start) held ≡ sum_by g (starts ls)
tied_starts held ls t g = t (λ (l : Lead). g l.start) ∙ sums_starts g 0 ls

-- as many are held as lanes have a lead
pub tied_length : (held : List Lead) (ls : List (List Request)) → Tied held ls → length held ≡ length (starts ls)
tied_length held ls t = sym (count_length held) ∙ tied_starts held ls t (λ _. 1) ∙ count_length (starts ls)

-- ---- the least start tag

before : ℕ → ℕ → ℕ
before n m = cond (ltb m n) 1 0

same : ℕ → ℕ → ℕ
same n m = cond (eqb m n) 1 0

least_low : (n v : ℕ) (ms : List ℕ) → n ≤ v → sum_by (before n) ms ≡ 0 → n ≤ least v ms
unfolding before
least_low n v [] l s = l
least_low n v (m ∷ ms) l s =
    let c = sum_by-cons (before n) m ms in
    ⊎_elim
    (λ b. absurd (omega (arith, c, s, cond-true {A = ℕ} (ltb m n) 1 0 (lt-ltb m n b))))
    (λ b. omega (arith, least_low n m ms b (omega (arith, c, s)), b))
    (cases_lt m n)

least_is : (n v : ℕ) (ms : List ℕ) → sum_by (before n) ms ≡ 0 → 1 ≤ sum_by (same n) ms → least v ms ≡ n
unfolding before same
least_is n v [] z s = absurd (omega (arith, s))
least_is n v (m ∷ ms) z s =
    let c = sum_by-cons (before n) m ms in
    let d = sum_by-cons (same n) m ms in
    ⊎_elim
    (λ b. absurd (omega (arith, c, z, cond-true {A = ℕ} (ltb m n) 1 0 (lt-ltb m n b))))
    (λ b. ⊎_elim
    (λ e. omega (arith, e, least_low n m ms b (omega (arith, c, z))))
    (λ e. omega (arith, b, least_is n m ms (omega (arith, c, z)) (omega (arith, d, s, cond-false {A = ℕ} (eqb m n) 1 0 (ne_eqb m n e)))))
    (cases_eq m n))
    (cases_lt m n)

lead_low : (x y : Lead) → lead_upto x y ≡ true → x.start ≤ y.start
lead_low x y h = ⊎_elim (λ l. omega (arith, ltb-true x.start y.start l)) (λ k. omega (arith, eqb-true x.start y.start (and_parts _ _ k).0)) (or_cases _ _ h)

none_before : (x : Lead) (ys : List Lead) → ((k : ℕ) (d : Lead) → k < length ys → lead_upto x (get_or ys k d) ≡ true) → sum_by (λ (l : Lead). before x.start l.start) ys ≡ 0
unfolding before
none_before x [] h = refl
none_before x (y ∷ ys) h =
    omega (arith, sum_by-cons (λ (l : Lead). before x.start l.start) y ys, none_before x ys (λ k d l. h (suc k) d (omega (arith, l))), cond-false {A = ℕ} (ltb y.start x.start) 1 0 (le-ltb y.start x.start (lead_low x y (h 0 y (omega arith)))))

-- the start of the first of the heap is the least, and with none it is what was kept
gathered_least : (kept : ℕ) (ms : List ℕ) (x : Lead) (ys : List Lead) → 0 < length ys → ((d : Lead) → x ≡ get_or ys 0 d) → Least lead_upto x ys → ((g : ℕ → ℕ) → sum_by (λ (l : Lead). g l.start) ys ≡ sum_by g ms) → x.start ≡ least kept ms
unfolding Least before same
gathered_least kept ms x [] some first low h = absurd (omega (arith, some))
gathered_least kept ms x (y ∷ ys) some first low h =
    let here = sum_by-cons (λ (l : Lead). same x.start l.start) y ys in
    let one = cond-true {A = ℕ} (eqb y.start x.start) 1 0 (eq-eqb y.start x.start (ap (λ (l : Lead). l.start) (sym (first y)))) in
    sym (least_is x.start kept ms (omega (arith, h (before x.start), none_before x (y ∷ ys) low)) (omega (arith, h (same x.start), here, one)))

gathered_kept : (kept : ℕ) (ms : List ℕ) (ys : List Lead) → ys ≡ [] → ((g : ℕ → ℕ) → sum_by (λ (l : Lead). g l.start) ys ≡ sum_by g ms) → kept ≡ least kept ms
gathered_kept kept [] ys e h = refl
gathered_kept kept (m ∷ ms) ys e h = absurd (omega (arith, h (λ _. 1), ap (sum_by (λ (l : Lead). 1)) e, sum_by-cons (λ _. 1) m ms))

-- what the first of the leads tells
pub tied_least : (kept : ℕ) (ls : List (List Request)) (xs : List Lead) (r : Option Lead) → Tied xs ls → Leads lead_upto xs r → start_of r kept ≡ least kept (starts ls)
tied_least kept ls xs None t h = gathered_kept kept (starts ls) xs h (tied_starts xs ls t)
tied_least kept ls xs (Some x) t h = gathered_least kept (starts ls) x xs h.1 h.0 h.2 (tied_starts xs ls t)
