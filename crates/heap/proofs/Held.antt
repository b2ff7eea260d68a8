-- What the methods of the heap leave of the records that are held, from what the sifts do to them. Assumes nothing.
use Rattle.std.proofs.Common.{◌≡◌, ℕ, suc, ◌+◌, ◌<◌, ◌≤◌, min, Bool, true, false, List, [], ◌∷◌, ◌++◌, length, get_or, take, drop, set, Option, sym, refl, ap, ◌∙◌, subst, ⊎_elim, arith}
use Rattle.std.specs.List.Sorted.{IsPermutation}
use Rattle.std.proofs.lemmas.List.{length-set, length-drop, length-append, length-take-le, take_at, take_all, take-append-le, take_more, take-take, get_or_read, get_or-take, get_or_default, set_split, drop_all}
use Rattle.std.proofs.lemmas.List.Sorted.{IsPermutation-sym, IsPermutation-trans, IsPermutation-cons, IsPermutation-swap, IsPermutation-to_front, length_permutation}
use Rattle.std.proofs.lemmas.Bool.{cases_lt}
use Rattle.std.specs.List.{slice_get}
use Rattle.heap.specs.Heaps.{Heaped, Rising, Free, Least, Took, Lost, Traded, Peeked}
use Rattle.heap.proofs.Steps as steps

take_min : {X : Type 0} (n : ℕ) (xs : List X) → take n xs ≡ take (min n (length xs)) xs
take_min n xs = ⊎_elim
    (λ l. ap (λ m. take m xs) (omega arith))
    (λ l. take_all n xs l ∙ sym (take_all (min n (length xs)) xs (omega arith)))
    (cases_lt n (length xs))

-- x in the place `at`, for the record that stands there
trades : {X : Type 0} (xs : List X) (at : ℕ) (x d : X) → at < length xs → IsPermutation (x ∷ xs) (get_or xs at d ∷ set xs at x)
trades xs at x d l =
    subst (λ y. IsPermutation (x ∷ xs) (y ∷ set xs at x)) (get_or_default xs at x d l)
    (IsPermutation-swap (x ∷ xs) (get_or xs at x ∷ set xs at x) 0 (suc at) (omega arith) (omega (arith, l)) refl)

-- x in the place after n
set_last : {X : Type 0} (xs : List X) (n k : ℕ) (x : X) → k ≡ n + 1 → n < length xs → set (take k xs) n x ≡ take n xs ++ x ∷ []
set_last xs n k x e l =
    let long : length (take k xs) ≡ k = length-take-le k xs (omega arith) in
    set_split (take k xs) n x (omega arith) ∙ (λ i. take-take n k xs (omega arith) i ++ x ∷ drop_all (suc n) (take k xs) (omega arith) i)

module _ {X : Type 0} (upto : X → X → Bool) (total : (x y : X) → upto x y ≡ false → upto y x ≡ true)
    (transitive : (x y z : X) → upto x y ≡ true → upto y z ≡ true → upto x z ≡ true) where
  pub pushes : (xs zs : List X) (n k : ℕ) (x : X) → k ≡ n + 1 → n < length xs → IsPermutation (set (take k xs) n x) zs → (Rising upto (set (take k xs) n x) n → Heaped upto zs) → Took upto xs n x (zs ++ drop k xs) (n + 1)
  pushes xs zs n k x e l s f =
      let part : set (take k xs) n x ≡ take n xs ++ x ∷ [] = set_last xs n k x e l in
      let long : length zs ≡ k = length_permutation (set (take k xs) n x) zs s ∙ length-set (take k xs) n x ∙ length-take-le k xs (omega arith) in
      let held : take (n + 1) (zs ++ drop k xs) ≡ zs = take_at zs (drop k xs) (n + 1) (omega arith) in
      record {
        room = l;
        long = simp (length-append, length-drop) (omega arith);
        len = refl;
        held = subst (IsPermutation (x ∷ take n xs)) (sym held) (IsPermutation-trans _ _ _ (IsPermutation-sym _ _ (IsPermutation-to_front (take n xs) x)) (subst (λ v. IsPermutation v zs) part s));
        ordered = λ h. subst (Heaped upto) (sym held) (f (subst (λ v. Rising upto v n) (sym part) (subst (Rising upto (take n xs ++ x ∷ [])) (length-take-le n xs (omega arith)) (steps.pushed upto total transitive (take n xs) x h))));
      }

  -- the first of a heap is the least
  first_least : (xs : List X) (n at : ℕ) (x : X) → at ≡ 0 → ((d : X) → x ≡ get_or (take n xs) at d) → Heaped upto (take n xs) → Least upto x (take n xs)
  first_least xs n at x z is o = steps.first_least upto total transitive (take n xs) x (subst (λ k. (d : X) → x ≡ get_or (take n xs) k d) z is) o

  -- of the held records hs that in the place `at` goes, and the last, y, comes into its place
  pub deletes : (hs zs : List X) (m at : ℕ) (x y : X) → m + 1 ≡ length hs → at < m → x ≡ get_or hs at x → y ≡ get_or hs m y → IsPermutation (set (take m hs) at y) zs → (Free upto (set (take m hs) at y) at → Heaped upto zs) → IsPermutation hs (x ∷ take m (zs ++ drop m hs)) × (Heaped upto hs → Heaped upto (take m (zs ++ drop m hs)))
  deletes hs zs m at x y e b is end s h =
      let short : length (take m hs) ≡ m = length-take-le m hs (omega arith) in
      let long : length zs ≡ m = length_permutation (set (take m hs) at y) zs s ∙ length-set (take m hs) at y ∙ short in
      let held : take m (zs ++ drop m hs) ≡ zs = take_at zs (drop m hs) m long in
      let ends : hs ≡ take m hs ++ y ∷ [] = sym (take_all (m + 1) hs (omega arith)) ∙ take_more hs m y (omega arith) ∙ (λ i. take m hs ++ sym end i ∷ []) in
      let gone : get_or (take m hs) at x ≡ x = get_or-take m hs at x (omega arith) ∙ sym is in
      let whole : IsPermutation hs (x ∷ zs) = subst (λ v. IsPermutation v (x ∷ zs)) (sym ends) (IsPermutation-trans _ _ _ (IsPermutation-to_front (take m hs) y) (IsPermutation-trans _ _ _ (subst (λ v. IsPermutation (y ∷ take m hs) (v ∷ set (take m hs) at y)) gone (trades (take m hs) at y x (omega arith))) (IsPermutation-cons x (set (take m hs) at y) zs s))) in (
        rw held whole,
        λ o. subst (Heaped upto) (sym held) (h (steps.freed upto total transitive (take m hs) at y (steps.shortened upto total transitive hs m o))),
      )

  -- the last goes
  pub deletes_last : (hs : List X) (m at : ℕ) (x : X) → m + 1 ≡ length hs → at < m + 1 → m ≤ at → x ≡ get_or hs at x → IsPermutation hs (x ∷ take m hs)
  deletes_last hs m at x e b z is =
      let here : x ≡ get_or hs m x = is ∙ ap (λ i. get_or hs i x) (omega arith) in
      let ends : hs ≡ take m hs ++ x ∷ [] = sym (take_all (m + 1) hs (omega arith)) ∙ take_more hs m x (omega arith) ∙ (λ i. take m hs ++ sym here i ∷ []) in
      subst (λ v. IsPermutation v (x ∷ take m hs)) (sym ends) (IsPermutation-to_front (take m hs) x)

  -- the first k of the items are held, of which that in the place `at` goes; hs is what stands there then
  pub removes : (xs hs : List X) (n k m j at : ℕ) (x : X) → k ≡ min n (length xs) → k ≡ m + 1 → j ≡ m → at < k → length hs ≡ k → ((d : X) → x ≡ get_or (take k xs) at d) → IsPermutation (take k xs) (x ∷ take j hs) → (Heaped upto (take k xs) → Heaped upto (take j hs)) → Lost upto xs n at x (hs ++ drop k xs) m
  removes xs hs n k m j at x e f a b long is s h =
      let all : take n xs ≡ take k xs = take_min n xs ∙ ap (λ i. take i xs) (sym e) in
      let held : take m (hs ++ drop k xs) ≡ take j hs = take-append-le m hs (drop k xs) (omega arith) ∙ ap (λ i. take i hs) (sym a) in
      let read : (d : X) → x ≡ get_or (take n xs) at d = subst (λ v. (d : X) → x ≡ get_or v at d) (sym all) is in
      record {
        place = omega arith;
        is = read;
        long = simp (length-append, length-drop) (omega arith);
        len = omega arith;
        held = rw (all, held) s;
        least = λ z. first_least xs n at x z read;
        ordered = λ o. subst (Heaped upto) (sym held) (h (subst (Heaped upto) all o));
      }

  -- x comes in for the record in the place `at`
  pub replaces : (xs zs : List X) (n k at : ℕ) (x y : X) → k ≡ min n (length xs) → at < k → y ≡ get_or xs at y → IsPermutation (set (take k xs) at x) zs → (Free upto (set (take k xs) at x) at → Heaped upto zs) → Traded upto xs n at x y (zs ++ drop k xs) n
  replaces xs zs n k at x y e b read s h =
      let hs = take k xs in
      let is : y ≡ get_or hs at y = read ∙ sym (get_or-take k xs at y b) in
      let all : take n xs ≡ hs = take_min n xs ∙ ap (λ i. take i xs) (sym e) in
      let part : length hs ≡ k = length-take-le k xs (omega arith) in
      let long : length zs ≡ k = length_permutation (set hs at x) zs s ∙ length-set hs at x ∙ part in
      let wide : length (zs ++ drop k xs) ≡ length xs = simp (length-append, length-drop) (omega arith) in
      let held : take n (zs ++ drop k xs) ≡ zs = take_min n (zs ++ drop k xs) ∙ ap (λ i. take i (zs ++ drop k xs)) (omega arith) ∙ take_at zs (drop k xs) k long in
      let whole : IsPermutation (x ∷ hs) (y ∷ zs) = IsPermutation-trans _ _ _ (subst (λ v. IsPermutation (x ∷ hs) (v ∷ set hs at x)) (sym is) (trades hs at x y (omega arith))) (IsPermutation-cons y (set hs at x) zs s) in
      record {
        place = omega arith;
        is = subst (λ v. (d : X) → y ≡ get_or v at d) (sym all) (get_or_read hs at y (omega arith) is);
        long = wide;
        len = refl;
        held = rw (all, held) whole;
        ordered = λ o. subst (Heaped upto) (sym held) (h (steps.freed upto total transitive hs at x (subst (Heaped upto) all o)));
      }

  -- the least of the records held is the first
  pub peeks : (xs : List X) (n m : ℕ) (r : Option X) → m ≡ min n (length xs) → r ≡ slice_get (take m xs) 0 → Peeked upto xs n r
  peeks xs n m r e h = go (take m xs) (ap (λ i. take i xs) e ∙ sym (take_min n xs)) (ap (λ i. length (take i xs)) e ∙ length-take-le (min n (length xs)) xs (omega arith)) h
    where
      go : (ys : List X) → ys ≡ take n xs → length ys ≡ min n (length xs) → r ≡ slice_get ys 0 → Peeked upto xs n r
      go [] s l h = subst (Peeked upto xs n) (sym h) (omega (arith, l))
      go (y ∷ ys) s l h =
          let first : (d : X) → y ≡ get_or (take n xs) 0 d = λ d. ap (λ v. get_or v 0 d) s in
          subst (Peeked upto xs n) (sym h) (record { some = omega (arith, l); first = first; least = steps.first_least upto total transitive (take n xs) y first })
