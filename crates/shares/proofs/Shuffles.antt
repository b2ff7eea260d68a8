-- Lists over which every sum is the same have the same elements. Assumes nothing.
use Rattle.std.proofs.Common.{◌≡◌, ℕ, ◌<◌, Bool, true, cond, ◌&&◌, eqb, List, [], ◌∷◌, ◌++◌, map, sum_by, count_by, sym, refl, ap, subst, ⊎_elim, arith}
use Rattle.std.specs.List.{AllByRecursion}
use Rattle.std.specs.List.Sorted.{IsPermutation}
use Rattle.std.proofs.lemmas.List.Sums.{sum_by-cons, sum_by-append}
use Rattle.std.proofs.lemmas.List.Sorted.{IsPermutation-refl, IsPermutation-trans, IsPermutation-cons, IsPermutation-swap}
use Rattle.std.proofs.lemmas.Bool.{cases_Bool, cond-true, cond-false, eqb-true, eq-eqb, and_parts, and_from}
use Rattle.shares.specs.Events.{Request}

module _ {X : Type 0} where
  pub sum_by-map : {Y : Type 0} (h : Y → X) (g : X → ℕ) (ys : List Y) → sum_by g (map h ys) ≡ sum_by (λ y. g (h y)) ys
  sum_by-map h g [] = refl
  sum_by-map h g (y ∷ ys) = omega (arith, sum_by-cons g (h y) (map h ys), sum_by-cons (λ z. g (h z)) y ys, sum_by-map h g ys)

  shuffled_inside : (x : X) (ls rs : List X) → IsPermutation (x ∷ (ls ++ rs)) (ls ++ (x ∷ rs))
  shuffled_inside x [] rs = IsPermutation-refl (x ∷ rs)
  shuffled_inside x (a ∷ ls) rs =
      IsPermutation-trans (x ∷ a ∷ (ls ++ rs)) (a ∷ x ∷ (ls ++ rs)) (a ∷ (ls ++ (x ∷ rs)))
      (IsPermutation-swap (x ∷ a ∷ (ls ++ rs)) (a ∷ x ∷ (ls ++ rs)) 0 1 (omega arith) (omega arith) refl)
      (IsPermutation-cons a (x ∷ (ls ++ rs)) (ls ++ (x ∷ rs)) (shuffled_inside x ls rs))

-- a type whose values are told apart by some numbers
agree : {X : Type 0} → List (X → ℕ) → X → X → Bool
agree [] x y = true
agree (h ∷ hs) x y = eqb (h x) (h y) && agree hs x y

agree_itself : {X : Type 0} (hs : List (X → ℕ)) (x : X) → agree hs x x ≡ true
unfolding agree
agree_itself [] x = refl
agree_itself (h ∷ hs) x = and_from (eqb (h x) (h x)) (agree hs x x) (eq-eqb (h x) (h x) refl) (agree_itself hs x)

agree_means : {X : Type 0} (hs : List (X → ℕ)) (x y : X) → agree hs x y ≡ true → AllByRecursion (λ h. h x ≡ h y) hs
unfolding agree
agree_means [] x y t = tt
agree_means (h ∷ hs) x y t =
    let p = and_parts (eqb (h x) (h y)) (agree hs x y) t in
    (eqb-true (h x) (h y) p.0, agree_means hs x y p.1)

module _ {X : Type 0} (hs : List (X → ℕ)) (tell : (x y : X) → AllByRecursion (λ h. h x ≡ h y) hs → x ≡ y) where
  -- where x stands in a list
  place : (x : X) (ys : List X) → 0 < count_by (agree hs x) ys → (ls rs : List X) × (ys ≡ ls ++ (x ∷ rs))
  place x [] h = absurd (omega (arith, h))
  place x (y ∷ ys) h =
      let sum = sum_by-cons (λ z. cond (agree hs x z) 1 0) y ys in
      ⊎_elim
      (λ t. ([], ys, ap (λ z. z ∷ ys) (sym (tell x y (agree_means hs x y t)))))
      (λ n.
      let p = place x ys (omega (arith, h, sum, cond-false {A = ℕ} (agree hs x y) 1 0 n)) in
      (y ∷ p.0, p.1, ap (λ l. y ∷ l) p.2))
      (cases_Bool (agree hs x y))

  pub shuffled_from_sums : (xs ys : List X) → ((g : X → ℕ) → sum_by g xs ≡ sum_by g ys) → IsPermutation xs ys
  shuffled_from_sums [] [] h = IsPermutation-refl []
  shuffled_from_sums [] (y ∷ ys) h = absurd (omega (arith, h (λ _. 1), sum_by-cons (λ _. 1) y ys))
  shuffled_from_sums (x ∷ xs) ys h =
      let one = cond-true {A = ℕ} (agree hs x x) 1 0 (agree_itself hs x) in
      let p = place x ys (omega (arith, one, h (λ z. cond (agree hs x z) 1 0), sum_by-cons (λ z. cond (agree hs x z) 1 0) x xs)) in
      let rest = shuffled_from_sums xs (p.0 ++ p.1) (λ g. omega (arith, h g, sum_by-cons g x xs, ap (sum_by g) p.2, sum_by-append g p.0 (x ∷ p.1), sum_by-cons g x p.1, sum_by-append g p.0 p.1)) in
      let all = IsPermutation-trans (x ∷ xs) (x ∷ (p.0 ++ p.1)) (p.0 ++ (x ∷ p.1)) (IsPermutation-cons x xs (p.0 ++ p.1) rest) (shuffled_inside x p.0 p.1) in
      subst (IsPermutation (x ∷ xs)) (sym p.2) all

pub requests_from_sums : (xs ys : List Request) → ((g : Request → ℕ) → sum_by g xs ≡ sum_by g ys) → IsPermutation xs ys
requests_from_sums = shuffled_from_sums ((λ r. r.ticket) ∷ (λ r. r.flow) ∷ (λ r. r.sectors) ∷ (λ r. r.start) ∷ (λ r. r.end) ∷ (λ r. r.charge) ∷ [])
    (λ r q p. λ i. record { ticket = p.0 i; flow = p.1.0 i; sectors = p.1.1.0 i; start = p.1.1.1.0 i; end = p.1.1.1.1.0 i; charge = p.1.1.1.1.1.0 i })
