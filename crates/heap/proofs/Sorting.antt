-- Sorting keeps the records and puts them in order, and lists with the same records sort to the same list. Assumes nothing.
use Rattle.std.proofs.Common.{◌≡◌, ℕ, suc, ◌+◌, Bool, true, false, cond, ◌&&◌, eqb, ltb, List, [], ◌∷◌, length, sum_by, sym, refl, ap, ◌∙◌, ⊎_elim, arith}
use Rattle.std.specs.List.{AllByRecursion}
use Rattle.std.specs.List.Sorted.{IsPermutation}
use Rattle.std.proofs.lemmas.List.Sums.{sum_by-cons}
use Rattle.std.proofs.lemmas.List.Sorted.{sum_by-IsPermutation, IsPermutation-refl, IsPermutation-trans, IsPermutation-cons, IsPermutation-swap}
use Rattle.std.proofs.lemmas.Bool.{cond-true, cond-false, cond_both, cases_Bool, both_ways, or_cases, or_left, or_right, and_parts, and_from, lt-ltb, eq-eqb, ltb-true, eqb-true, or_parts, cases_order}
use Rattle.heap.specs.Sorting.{upto, insert, sorted, SortingStands}
pub use Rattle.heap.specs.Sorting.{First, Ordered}

pub upto_either : (as' bs : List ℕ) → upto as' bs ≡ false → upto bs as' ≡ true
upto_either [] bs e = absurd (both_ways true e refl)
upto_either (a ∷ as') [] e = refl
upto_either (a ∷ as') (b ∷ bs) e =
    let p = or_parts (ltb a b) (eqb a b && upto as' bs) e in
    ⊎_elim
    (λ q. or_right (ltb b a) (eqb b a && upto bs as') (and_from (eqb b a) (upto bs as') (eq-eqb b a (sym q)) (upto_either as' bs (tail (eqb a b) (upto as' bs) (eq-eqb a b q) p.1))))
    (λ q. or_left (ltb b a) (eqb b a && upto bs as') (lt-ltb b a (⊎_elim (λ l. absurd (both_ways (ltb a b) p.0 (lt-ltb a b l))) (λ l. l) q)))
    (cases_order a b)
  where
    tail : (x y : Bool) → x ≡ true → (x && y) ≡ false → y ≡ false
    tail true y t e = e
    tail false y t e = absurd (both_ways false refl t)

-- what `upto` says of two heads
split : (a b : ℕ) (as' bs : List ℕ) {C : Type 0} → upto (a ∷ as') (b ∷ bs) ≡ true → (ltb a b ≡ true → C) → (a ≡ b → upto as' bs ≡ true → C) → C
split a b as' bs e f g = ⊎_elim f (λ k. let p = and_parts (eqb a b) (upto as' bs) k in g (eqb-true a b p.0) p.1) (or_cases (ltb a b) (eqb a b && upto as' bs) e)

pub upto_chain : (as' bs cs : List ℕ) → upto as' bs ≡ true → upto bs cs ≡ true → upto as' cs ≡ true
upto_chain [] bs cs p q = refl
upto_chain (a ∷ as') [] cs p q = absurd (both_ways false refl p)
upto_chain (a ∷ as') (b ∷ bs) [] p q = absurd (both_ways false refl q)
upto_chain (a ∷ as') (b ∷ bs) (c ∷ cs) p q =
    let less : ltb a c ≡ true → upto (a ∷ as') (c ∷ cs) ≡ true = λ l. or_left (ltb a c) (eqb a c && upto as' cs) l in
    split a b as' bs p
    (λ l. split b c bs cs q (λ m. less (lt-ltb a c (omega (arith, ltb-true a b l, ltb-true b c m)))) (λ e k. less (lt-ltb a c (omega (arith, ltb-true a b l)))))
    (λ d h. split b c bs cs q (λ m. less (lt-ltb a c (omega (arith, ltb-true b c m))))
    (λ e k. or_right (ltb a c) (eqb a c && upto as' cs) (and_from (eqb a c) (upto as' cs) (eq-eqb a c (d ∙ e)) (upto_chain as' bs cs h k))))

pub upto_alike : (as' bs : List ℕ) → upto as' bs ≡ true → upto bs as' ≡ true → as' ≡ bs
upto_alike [] [] p q = refl
upto_alike [] (b ∷ bs) p q = absurd (both_ways false refl q)
upto_alike (a ∷ as') [] p q = absurd (both_ways false refl p)
upto_alike (a ∷ as') (b ∷ bs) p q =
    split a b as' bs p
    (λ l. split b a bs as' q (λ m. absurd (omega (arith, ltb-true a b l, ltb-true b a m))) (λ e k. absurd (omega (arith, ltb-true a b l))))
    (λ d h. split b a bs as' q (λ m. absurd (omega (arith, ltb-true b a m))) (λ e k. λ i. d i ∷ upto_alike as' bs h k i))

module _ {X : Type 0} (by : X → List ℕ) where
  pub sum_by-insert : (g : X → ℕ) (x : X) (ys : List X) → sum_by g (insert by x ys) ≡ g x + sum_by g ys
  sum_by-insert g x [] = sum_by-cons g x []
  sum_by-insert g x (y ∷ ys) = cond_both (upto (by x) (by y)) (x ∷ y ∷ ys) (y ∷ insert by x ys) (λ l. sum_by g l ≡ g x + sum_by g (y ∷ ys))
      (λ _. sum_by-cons g x (y ∷ ys))
      (λ _. omega (arith, sum_by-cons g y (insert by x ys), sum_by-cons g y ys, sum_by-insert g x ys))

  pub sum_by-sorted : (g : X → ℕ) (xs : List X) → sum_by g (sorted by xs) ≡ sum_by g xs
  sum_by-sorted g [] = refl
  sum_by-sorted g (x ∷ xs) = omega (arith, sum_by-insert g x (sorted by xs), sum_by-sorted g xs, sum_by-cons g x xs)

  pub length-insert : (x : X) (ys : List X) → length (insert by x ys) ≡ suc (length ys)
  length-insert x [] = refl
  length-insert x (y ∷ ys) = cond_both (upto (by x) (by y)) (x ∷ y ∷ ys) (y ∷ insert by x ys) (λ l. length l ≡ suc (suc (length ys))) (λ _. refl) (λ _. ap suc (length-insert x ys))

  pub length-sorted : (xs : List X) → length (sorted by xs) ≡ length xs
  length-sorted [] = refl
  length-sorted (x ∷ xs) = length-insert x (sorted by xs) ∙ ap suc (length-sorted xs)

  pub all_insert : (P : X → Type 0) (x : X) (ys : List X) → P x → AllByRecursion P ys → AllByRecursion P (insert by x ys)
  all_insert P x [] p q = (p, tt)
  all_insert P x (y ∷ ys) p q = cond_both (upto (by x) (by y)) (x ∷ y ∷ ys) (y ∷ insert by x ys) (AllByRecursion P) (λ _. (p, q)) (λ _. (q.0, all_insert P x ys p q.1))

  pub AllByRecursion-sorted : (P : X → Type 0) (xs : List X) → AllByRecursion P xs → AllByRecursion P (sorted by xs)
  AllByRecursion-sorted P [] h = tt
  AllByRecursion-sorted P (x ∷ xs) h = all_insert P x (sorted by xs) h.0 (AllByRecursion-sorted P xs h.1)

  after : (x y : X) (ys : List X) → First by x y → AllByRecursion (First by y) ys → AllByRecursion (First by x) ys
  after x y [] f h = tt
  after x y (z ∷ zs) f h = (upto_chain (by x) (by y) (by z) f h.0, after x y zs f h.1)

  pub Ordered-insert : (x : X) (ys : List X) → Ordered by ys → Ordered by (insert by x ys)
  Ordered-insert x [] h = (tt, tt)
  Ordered-insert x (y ∷ ys) h = cond_both (upto (by x) (by y)) (x ∷ y ∷ ys) (y ∷ insert by x ys) (Ordered by)
      (λ e. ((e, after x y ys e h.0), h))
      (λ e. (all_insert (First by y) x ys (upto_either (by x) (by y) e) h.0, Ordered-insert x ys h.1))

  pub Ordered-sorted : (xs : List X) → Ordered by (sorted by xs)
  Ordered-sorted [] = tt
  Ordered-sorted (x ∷ xs) = Ordered-insert x (sorted by xs) (Ordered-sorted xs)

  pub IsPermutation-insert : (x : X) (ys : List X) → IsPermutation (x ∷ ys) (insert by x ys)
  IsPermutation-insert x [] = IsPermutation-refl (x ∷ [])
  IsPermutation-insert x (y ∷ ys) = cond_both (upto (by x) (by y)) (x ∷ y ∷ ys) (y ∷ insert by x ys) (IsPermutation (x ∷ y ∷ ys))
      (λ _. IsPermutation-refl (x ∷ y ∷ ys))
      (λ _. IsPermutation-trans _ _ _ (IsPermutation-swap (x ∷ y ∷ ys) (y ∷ x ∷ ys) 0 1 (omega arith) (omega arith) refl) (IsPermutation-cons y (x ∷ ys) (insert by x ys) (IsPermutation-insert x ys)))

  pub IsPermutation-sorted : (xs : List X) → IsPermutation xs (sorted by xs)
  IsPermutation-sorted [] = IsPermutation-refl []
  IsPermutation-sorted (x ∷ xs) = IsPermutation-trans _ _ _ (IsPermutation-cons x xs (sorted by xs) (IsPermutation-sorted xs)) (IsPermutation-insert x (sorted by xs))

  -- what is at or before all goes to the front
  pub insert-first : (x : X) (ys : List X) → AllByRecursion (First by x) ys → insert by x ys ≡ x ∷ ys
  insert-first x [] h = refl
  insert-first x (y ∷ ys) h = cond-true (upto (by x) (by y)) _ _ h.0

  -- how many come before y: none of those that y is at or before
  pub none_before : (y : X) (ys : List X) → AllByRecursion (First by y) ys → sum_by (λ z. cond (upto (by y) (by z)) 0 1) ys ≡ 0
  none_before y [] h = refl
  none_before y (z ∷ zs) h = omega (arith, sum_by-cons (λ z. cond (upto (by y) (by z)) 0 1) z zs, none_before y zs h.1, cond-true {A = ℕ} (upto (by y) (by z)) 0 1 h.0)

  module _ (tell : (x y : X) → by x ≡ by y → x ≡ y) where
    head_first : (x y : X) (xs ys : List X) → Ordered by (y ∷ ys) → ((g : X → ℕ) → sum_by g (x ∷ xs) ≡ sum_by g (y ∷ ys)) → First by y x
    head_first x y xs ys o h = ⊎_elim (λ t. t)
        (λ f. let g : X → ℕ = λ z. cond (upto (by y) (by z)) 0 1 in
        let itself : upto (by y) (by y) ≡ true = ⊎_elim (λ t. t) (λ n. upto_either (by y) (by y) n) (cases_Bool (upto (by y) (by y))) in
        absurd (omega (arith, h g, sum_by-cons g x xs, none_before y (y ∷ ys) (itself, o.0), cond-false {A = ℕ} (upto (by y) (by x)) 0 1 f)))
        (cases_Bool (upto (by y) (by x)))

    pub same_ordered : (xs ys : List X) → Ordered by xs → Ordered by ys → ((g : X → ℕ) → sum_by g xs ≡ sum_by g ys) → xs ≡ ys
    same_ordered [] [] o p h = refl
    same_ordered [] (y ∷ ys) o p h = absurd (omega (arith, h (λ _. 1), sum_by-cons (λ _. 1) y ys))
    same_ordered (x ∷ xs) [] o p h = absurd (omega (arith, h (λ _. 1), sum_by-cons (λ _. 1) x xs))
    same_ordered (x ∷ xs) (y ∷ ys) o p h =
        let e : x ≡ y = tell x y (upto_alike (by x) (by y) (head_first y x ys xs o (λ g. sym (h g))) (head_first x y xs ys p h)) in
        let t = same_ordered xs ys o.1 p.1 (λ g. omega (arith, h g, sum_by-cons g x xs, sum_by-cons g y ys, ap g e)) in
        λ i. e i ∷ t i

    pub sorted-IsPermutation : (xs ys : List X) → IsPermutation xs ys → sorted by ys ≡ sorted by xs
    sorted-IsPermutation xs ys s = same_ordered (sorted by ys) (sorted by xs) (Ordered-sorted ys) (Ordered-sorted xs)
        (λ g. sum_by-sorted g ys ∙ sum_by-IsPermutation g xs ys s ∙ sym (sum_by-sorted g xs))

pub sorting_stands_lem : (X : Type 0) (by : X → List ℕ) → SortingStands X by
sorting_stands_lem X by = record {
  sorts = λ xs. record { same = IsPermutation-sorted by xs; ordered = Ordered-sorted by xs };
  inserts = λ x ys o. record { same = IsPermutation-insert by x ys; ordered = Ordered-insert by x ys o };
  unique = λ tell xs ys h. same_ordered by tell ys (sorted by xs) h.ordered (Ordered-sorted by xs) (λ g. sum_by-IsPermutation g xs ys h.same ∙ sym (sum_by-sorted by g xs));
}
