-- What each step of a heap keeps. Assumes nothing.
use Rattle.std.proofs.Common.{◌≡◌, ℕ, zero, suc, ◌+◌, ◌-◌, ◌*◌, ◌/◌, ◌<◌, ◌≤◌, Bool, true, false, List, [], ◌∷◌, ◌++◌, length, get_or, take, set, sym, refl, ap, ◌∙◌, ⊎_elim, arith}
use Rattle.std.proofs.lemmas.List.Edits.{swap_is}
use Rattle.std.proofs.lemmas.List.Sorted.{IsPermutation-swap}
use Rattle.std.proofs.lemmas.Bool.{cases_eq}
use Rattle.std.specs.List.Sorted.{IsPermutation}
use Rattle.std.proofs.lemmas.List.{length_push, length-set, get_or_append_left, get_or_default, get_or_read, get_or-set_same, get_or-set_other, length-take, get_or-take, set-set}
use Rattle.heap.specs.Heaps.{Child, Least, Heaped, Rising, Free, LeastChild}

-- ys is xs with the records at a and b in each other's place
abbrev pub Swapped : {X : Type 0} → List X → List X → ℕ → ℕ → Type 0
Swapped {X} xs ys a b =
    ((d : X) → get_or ys a d ≡ get_or xs b d) × ((d : X) → get_or ys b d ≡ get_or xs a d)
    × ((k : ℕ) (d : X) → (k ≡ a → ⊥) → (k ≡ b → ⊥) → get_or ys k d ≡ get_or xs k d)

-- The hole moves from h to c, whose record y moves into it: the list with x in the hole has the records at h and c exchanged.
module _ {X : Type 0} (s : List X) (h c : ℕ) (x y : X) (in-h : h < length s) (in_c : c < length s) (apart : h ≡ c → ⊥) (read : y ≡ get_or s c y) where
  pub hole_swaps : Swapped (set s h x) (set (set s h y) c x) h c
  hole_swaps =
      let wide = length-set s h y in (
        λ d. get_or-set_other (set s h y) c h x d (omega arith) ∙ get_or-set_same s h y d in-h ∙ get_or_read s c y in_c read d ∙ sym (get_or-set_other s h c x d (omega arith)),
        λ d. get_or-set_same (set s h y) c x d (omega arith) ∙ sym (get_or-set_same s h x d in-h),
        λ k d p q. get_or-set_other (set s h y) c k x d q ∙ get_or-set_other s h k y d p ∙ sym (get_or-set_other s h k x d p),
      )

  pub hole_shuffles : IsPermutation (set s h x) (set (set s h y) c x)
  hole_shuffles =
      let v = set s h x in
      let wide = length-set s h x in
      let at_c : get_or v c x ≡ y = get_or-set_other s h c x x (omega arith) ∙ sym (get_or_read s c y in_c read x) in
      let at-h : get_or v h x ≡ x = get_or-set_same s h x x in-h in
      IsPermutation-swap v (set (set s h y) c x) h c (omega arith) (omega arith)
      (sym ((λ i. set (set v h (at_c i)) c (at-h i)) ∙ ap (λ l. set l c x) (set-set s h x y)) ∙ swap_is v h c x (omega arith) (omega arith))

module _ {X : Type 0} (upto : X → X → Bool) (total : (x y : X) → upto x y ≡ false → upto y x ≡ true)
    (transitive : (x y z : X) → upto x y ≡ true → upto y z ≡ true → upto x z ≡ true) where
  by : (a b x y : X) → a ≡ x → b ≡ y → upto x y ≡ true → upto a b ≡ true
  by a b x y p q h = (λ k. upto (p k) (q k)) ∙ h

  itself : (x : X) (b : Bool) → upto x x ≡ b → upto x x ≡ true
  itself x true e = e
  itself x false e = total x x e

  at : (xs : List X) (d : X) (i j : ℕ) → i ≡ j → get_or xs i d ≡ get_or xs j d
  at xs d i j e = ap (λ n. get_or xs n d) e

  -- `Heaped`, by parent and child
  abbrev Tree : List X → Type 0
  Tree xs = (p k : ℕ) (d : X) → Child p k → k < length xs → upto (get_or xs p d) (get_or xs k d) ≡ true

  tree : (xs : List X) → Heaped upto xs → Tree xs
  tree xs h p k d c l = by _ _ _ _ (at xs d p ((k - 1) / 2) (omega arith)) (at xs d k (k - 1 + 1) (omega arith)) (h (k - 1) d (omega arith))

  heaped : (xs : List X) → Tree xs → Heaped upto xs
  heaped xs h k d l = h (k / 2) (k + 1) d (omega arith, omega arith) l

  -- ---- a record that rises from j to its parent p

  -- what the test of the parent p against x says of the list with x in the hole j
  pub parent_read : (s : List X) (p j : ℕ) (x y : X) (b : Bool) → Child p j → j < length s → b ≡ upto (get_or s p y) x → (d : X) → upto (get_or (set s j x) p d) (get_or (set s j x) j d) ≡ b
  parent_read s p j x y b o i t d = (λ k. upto ((get_or-set_other s j p x d (omega arith) ∙ get_or_default s p d y (omega arith)) k) (get_or-set_same s j x d i k)) ∙ sym t

  pub rise_ends : (xs : List X) (j : ℕ) → j ≤ 0 → Rising upto xs j → Heaped upto xs
  unfolding Rising
  rise_ends xs j z h = heaped xs (λ p k d c l. h.0 p k d c l (omega arith))

  pub rise_rests : (xs : List X) (p j : ℕ) → Child p j → ((d : X) → upto (get_or xs p d) (get_or xs j d) ≡ true) → Rising upto xs j → Heaped upto xs
  unfolding Rising
  rise_rests xs p j o t h = heaped xs (λ q k d c l. ⊎_elim
      (λ e. by _ _ _ _ (at xs d q p (omega arith)) (at xs d k j e) (t d))
      (λ n. h.0 q k d c l n)
      (cases_eq k j))

  pub rise_steps : (xs ys : List X) (p j : ℕ) → Child p j → j < length xs → length ys ≡ length xs → Swapped xs ys j p → ((d : X) → upto (get_or xs p d) (get_or xs j d) ≡ false) → Rising upto xs j → Rising upto ys p
  unfolding Rising
  rise_steps xs ys p j o i long s t h =
      let up : (d : X) → upto (get_or xs j d) (get_or xs p d) ≡ true = λ d. total _ _ (t d) in
      let p' : (q : ℕ) (d : X) → q ≡ p → get_or ys q d ≡ get_or xs j d = λ q d e. at ys d q p e ∙ s.1 d in
      let j' : (q : ℕ) (d : X) → q ≡ j → get_or ys q d ≡ get_or xs p d = λ q d e. at ys d q j e ∙ s.0 d in (
        λ q k d c l n. ⊎_elim
            (λ e. by _ _ _ _ (p' q d (omega arith)) (j' k d e) (up d))
            (λ m. ⊎_elim
            (λ e. by _ _ _ _ (p' q d e) (s.2 k d m n) (transitive _ _ _ (up d) (h.0 p k d (omega arith, omega arith) (omega arith) m)))
            (λ u. ⊎_elim
            (λ e. by _ _ _ _ (j' q d e) (s.2 k d m n) (h.1 p k d o (omega arith, omega arith) (omega arith)))
            (λ v. by _ _ _ _ (s.2 q d v u) (s.2 k d m n) (h.0 q k d c (omega arith) m))
            (cases_eq q j))
            (cases_eq q p))
            (cases_eq k j),
        λ q k d a c l.
            let over = h.0 q p d a (omega arith) (omega arith) in
            let same = s.2 q d (omega arith) (omega arith) in ⊎_elim
            (λ e. by _ _ _ _ same (j' k d e) over)
            (λ m. by _ _ _ _ same (s.2 k d m (omega arith)) (transitive _ _ _ over (h.0 p k d c (omega arith) m)))
            (cases_eq k j),
      )

  -- ---- a hole that sinks from j to its lesser child c

  pub sink_ends : (xs : List X) (j : ℕ) → length xs ≤ j * 2 + 1 → Free upto xs j → Rising upto xs j
  unfolding Free Rising
  sink_ends xs j z h = (λ p k d c l n. h.0 p k d c l (omega arith) n, h.1)

  pub sink_steps : (xs ys : List X) (j c : ℕ) → Child j c → c < length xs → length ys ≡ length xs → Swapped xs ys j c → LeastChild upto xs j c → Free upto xs j → Free upto ys c
  unfolding Free LeastChild
  sink_steps xs ys j c o i long s b h =
      let j' : (q : ℕ) (d : X) → q ≡ j → get_or ys q d ≡ get_or xs c d = λ q d e. at ys d q j e ∙ s.0 d in (
        λ q k d a l n m. ⊎_elim
            (λ e. by _ _ _ _ (j' q d e) (s.2 k d (omega arith) m) (b k d (omega arith, omega arith) (omega arith)))
            (λ u. ⊎_elim
            (λ f. by _ _ _ _ (s.2 q d u n) (j' k d f) (h.1 q c d (omega arith, omega arith) o (omega arith)))
            (λ v. by _ _ _ _ (s.2 q d u n) (s.2 k d v m) (h.0 q k d a (omega arith) u v))
            (cases_eq k j))
            (cases_eq q j),
        λ q k d a f l. by _ _ _ _ (j' q d (omega arith)) (s.2 k d (omega arith) (omega arith)) (h.0 c k d f (omega arith) (omega arith) (omega arith)),
      )

  -- the least child, whatever stands in the hole
  pub least_child_set : (s : List X) (j c : ℕ) (x : X) → Child j c → LeastChild upto s j c → LeastChild upto (set s j x) j c
  unfolding LeastChild
  least_child_set s j c x o b k d a l =
      let wide = length-set s j x in
      by _ _ _ _ (get_or-set_other s j c x d (omega arith)) (get_or-set_other s j k x d (omega arith)) (b k d a (omega arith))

  -- ---- which child is the lesser

  pub left_only : (xs : List X) (j : ℕ) → length xs ≤ j * 2 + 2 → LeastChild upto xs j (j * 2 + 1)
  unfolding LeastChild
  left_only xs j z k d c l = by _ _ _ _ refl (at xs d k (j * 2 + 1) (omega arith)) (itself _ _ refl)

  pub left_least : (xs : List X) (j : ℕ) → ((d : X) → upto (get_or xs (j * 2 + 1) d) (get_or xs (j * 2 + 1 + 1) d) ≡ true) → LeastChild upto xs j (j * 2 + 1)
  unfolding LeastChild
  left_least xs j t k d c l = ⊎_elim
      (λ e. by _ _ _ _ refl (at xs d k (j * 2 + 1) e) (itself _ _ refl))
      (λ n. by _ _ _ _ refl (at xs d k (j * 2 + 1 + 1) (omega arith)) (t d))
      (cases_eq k (j * 2 + 1))

  pub right_least : (xs : List X) (j : ℕ) → ((d : X) → upto (get_or xs (j * 2 + 1) d) (get_or xs (j * 2 + 1 + 1) d) ≡ false) → LeastChild upto xs j (j * 2 + 1 + 1)
  unfolding LeastChild
  right_least xs j t k d c l = ⊎_elim
      (λ e. by _ _ _ _ refl (at xs d k (j * 2 + 1) e) (total _ _ (t d)))
      (λ n. by _ _ _ _ refl (at xs d k (j * 2 + 1 + 1) (omega arith)) (itself _ _ refl))
      (cases_eq k (j * 2 + 1))

  -- ---- the first of a heap

  first : (xs : List X) → Tree xs → (fuel k : ℕ) (d : X) → k ≤ fuel → k < length xs → upto (get_or xs 0 d) (get_or xs k d) ≡ true
  first xs h zero k d f l = by _ _ _ _ refl (at xs d k 0 (omega arith)) (itself _ _ refl)
  first xs h (suc fuel) k d f l = ⊎_elim
      (λ e. by _ _ _ _ refl (at xs d k 0 e) (itself _ _ refl))
      (λ n. transitive _ _ _ (first xs h fuel ((k - 1) / 2) d (omega arith) (omega arith)) (h ((k - 1) / 2) k d (omega arith, omega arith) l))
      (cases_eq k 0)

  pub first_least : (xs : List X) (x : X) → ((d : X) → x ≡ get_or xs 0 d) → Heaped upto xs → Least upto x xs
  unfolding Least
  first_least xs x e h k d l = by _ _ _ _ (e d) refl (first xs (tree xs h) k k d (omega arith) l)

  -- ---- one more at the end, any record in the place j, and all but the last

  pub pushed : (xs : List X) (x : X) → Heaped upto xs → Rising upto (xs ++ x ∷ []) (length xs)
  unfolding Rising
  pushed xs x h =
      let long = length_push xs x in (
        λ p k d c l n. by _ _ _ _ (get_or_append_left xs (x ∷ []) d p (omega arith)) (get_or_append_left xs (x ∷ []) d k (omega arith)) (tree xs h p k d c (omega arith)),
        λ p k d a c l. absurd (omega arith),
      )

  pub freed : (xs : List X) (j : ℕ) (x : X) → Heaped upto xs → Free upto (set xs j x) j
  unfolding Free
  freed xs j x h =
      let wide = length-set xs j x in
      let same : (k : ℕ) (d : X) → (k ≡ j → ⊥) → get_or (set xs j x) k d ≡ get_or xs k d = λ k d n. get_or-set_other xs j k x d n in (
        λ p k d c l m n. by _ _ _ _ (same p d m) (same k d n) (tree xs h p k d c (omega arith)),
        λ p k d a c l. by _ _ _ _ (same p d (omega arith)) (same k d (omega arith)) (transitive _ _ _ (tree xs h p j d a (omega arith)) (tree xs h j k d c (omega arith))),
      )

  pub shortened : (xs : List X) (n : ℕ) → Heaped upto xs → Heaped upto (take n xs)
  shortened xs n h k d l =
      let short = length-take n xs in
      by _ _ _ _ (get_or-take n xs (k / 2) d (omega arith)) (get_or-take n xs (k + 1) d (omega arith)) (h k d (omega arith))
