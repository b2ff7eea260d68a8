-- What a heap's answers say of its records as a list in order, where all of a record's numbers decide. Assumes nothing.
use Rattle.std.proofs.Common.{◌≡◌, ℕ, min, ◌≤◌, suc, ◌<◌, Bool, List, [], ◌∷◌, length, get_or, take, Some, None, Option, sym, refl, ap, ◌∙◌, subst, arith}
use Rattle.std.specs.List.{AllByRecursion}
use Rattle.std.specs.List.Sorted.{IsPermutation}
use Rattle.std.proofs.ByRecursion.{all_shuffled}
use Rattle.std.proofs.lemmas.List.{length-take, nil_from_length}
use Rattle.heap.specs.Fixed.{Leads, Leaves}
use Rattle.heap.specs.Heaps.{Heaped, Least, Took, Popped, Peeked}
use Rattle.heap.specs.Sorting.{upto, insert, sorted, head_of, Pops}
use Rattle.heap.proofs.Sorting.{First, sorted-IsPermutation, insert-first, AllByRecursion-sorted}

take_none : {X : Type 0} (n : ℕ) (xs : List X) → min n (length xs) ≤ 0 → take n xs ≡ []
take_none n xs l = nil_from_length (take n xs) (omega (arith, length-take n xs))

module _ {X : Type 0} (by : X → List ℕ) (tell : (x y : X) → by x ≡ by y → x ≡ y) where
  pub entered_sorted : (x : X) (xs ys : List X) → IsPermutation (x ∷ xs) ys → sorted by ys ≡ insert by x (sorted by xs)
  entered_sorted x xs ys h = sorted-IsPermutation by tell (x ∷ xs) ys h

  -- the same of memory that is lent
  pub pushed_sorted : (order : X → X → Bool) (xs ys : List X) (n m : ℕ) (x : X) → Took order xs n x ys m → sorted by (take m ys) ≡ insert by x (sorted by (take n xs))
  pushed_sorted order xs ys n m x h = entered_sorted x (take n xs) (take m ys) h.held

-- `order` is the order of the heap
module _ {X : Type 0} (by : X → List ℕ) (tell : (x y : X) → by x ≡ by y → x ≡ y) (order : X → X → Bool) (same : (x y : X) → order x y ≡ upto (by x) (by y)) where
  all_least : (x : X) (ys : List X) → Least order x ys → AllByRecursion (First by x) ys
  unfolding Least
  all_least x [] h = tt
  all_least x (y ∷ ys) h = (sym (same x y) ∙ h 0 y (omega arith), all_least x ys (λ k d l. h (suc k) d (omega (arith, l))))

  -- what is at or before all comes first
  first_sorted : (x : X) (ys : List X) → AllByRecursion (First by x) ys → sorted by (x ∷ ys) ≡ x ∷ sorted by ys
  first_sorted x ys h = insert-first by x (sorted by ys) (AllByRecursion-sorted by (First by x) ys h)

  pub left_sorted : (xs ys : List X) (r : Option X) → Leaves order xs 0 r ys → Pops (sorted by xs) r (sorted by ys)
  left_sorted xs ys None h = let none = nil_from_length xs (omega (arith, h.0)) in (ap (sorted by) none, ap (sorted by) (h.1 ∙ none))
  left_sorted xs ys (Some x) h =
      sym (sorted-IsPermutation by tell xs (x ∷ ys) h.2)
      ∙ first_sorted x ys (all_shuffled (First by x) xs (x ∷ ys) h.2 (all_least x xs (h.3 refl))).1

  pub leads_head : (xs : List X) (r : Option X) → Leads order xs r → r ≡ head_of (sorted by xs)
  leads_head xs None h = sym (ap (λ l. head_of (sorted by l)) h)
  leads_head [] (Some x) h = absurd (omega (arith, h.1))
  leads_head (z ∷ zs) (Some x) h = ap Some (h.0 z) ∙ sym (ap head_of (first_sorted z zs (subst (λ y. AllByRecursion (First by y) zs) (h.0 z) (all_least x (z ∷ zs) h.2).1)))

  -- the same of memory that is lent, where it is heaped
  pub popped_sorted : (xs ys : List X) (n m : ℕ) (r : Option X) → Popped order xs n r ys m → Heaped order (take n xs) → Pops (sorted by (take n xs)) r (sorted by (take m ys))
  popped_sorted xs ys n m None h o = let none = ap (sorted by) (take_none n xs h.0) in (none, (λ i. sorted by (take (h.1.1 i) (h.1.0 i))) ∙ none)
  popped_sorted xs ys n m (Some x) h o =
      let rest = take m ys in
      sym (sorted-IsPermutation by tell (take n xs) (x ∷ rest) h.held)
      ∙ first_sorted x rest (all_shuffled (First by x) (take n xs) (x ∷ rest) h.held (all_least x (take n xs) (h.least refl o))).1

  pub peeked_head : (xs : List X) (n : ℕ) (r : Option X) → Peeked order xs n r → Heaped order (take n xs) → r ≡ head_of (sorted by (take n xs))
  peeked_head xs n None h o = sym (ap (λ l. head_of (sorted by l)) (take_none n xs h))
  peeked_head xs n (Some x) h o = go (take n xs) (omega (arith, h.some, length-take n xs)) h.first (all_least x (take n xs) (h.least o))
    where
      go : (zs : List X) → 0 < length zs → ((d : X) → x ≡ get_or zs 0 d) → AllByRecursion (First by x) zs → Some x ≡ head_of (sorted by zs)
      go [] l f a = absurd (omega (arith, l))
      go (z ∷ zs) l f a = ap Some (f z) ∙ sym (ap head_of (first_sorted z zs (subst (λ y. AllByRecursion (First by y) zs) (f z) a.1)))
