-- A list in a circle of places: its length, its first, one more at its end, and what stands in it.
use Rattle.std.proofs.Common.{◌≡◌, ℕ, ◌+◌, ◌-◌, ◌<◌, ◌≤◌, ◌⊎◌, true, false, cond, ltb, List, [], ◌∷◌, ◌++◌, length, get_or, take, drop, set, sym, refl, ap, ◌∙◌, ap₂, inl, inr, arith, ltb-false, ltb-true, length-append, length-drop, length-set, length-take-le, get_or-drop, get_or-take}
use Rattle.std.proofs.lemmas.List.{same_lists, drop_more, get_or_append_left, get_or-append_right, take-append-drop, take-append-le, take_all, append-nil}
use Rattle.std.proofs.Math.Seq.{take-append-add}
use Rattle.std.proofs.lemmas.Bool.{cases_lt, or_from, or_parts}
use Rattle.std.proofs.lemmas.Grind.{common_steps}
use Rattle.card.specs.declared.Command.{Command}
use Rattle.card.specs.Commands.{among}
use Rattle.card.proofs.Bags.{among-append}
use Rattle.ring.specs.Circle.{window, wrap}

-- the place of i goes round once at most
wraps_once : (N i : ℕ) → ((i < N) × (wrap N i ≡ i)) ⊎ ((N ≤ i) × (wrap N i ≡ i - N))
wraps_once N i =
    elim (ltb i N) as (λ b. ltb i N ≡ b → ((i < N) × (cond b i (i - N) ≡ i)) ⊎ ((N ≤ i) × (cond b i (i - N) ≡ i - N))) [
      | true ↦ λ e. inl (ltb-true i N e, refl)
      | false ↦ λ e. inr (ltb-false i N e, refl)
    ] refl

module _ {X : Type 0} (N i k : ℕ) (xs : List X) (starts : i < N) (within : k ≤ N) (fill : length xs ≡ N) where
  -- the window has k elements
  pub length-window : length (window i k xs) ≡ k
  length-window = length-take-le k _ (simp (length-append, length-drop) (omega (arith, length-take-le i xs (omega arith))))

  -- element j of the window is at the place of i + j
  get_or-window : (j : ℕ) (d : X) → j < k → get_or (window i k xs) j d ≡ get_or xs (wrap N (i + j)) d
  get_or-window j d low =
      let tail = length-drop i xs in
      get_or-take k _ j d low ∙ elim (wraps_once N (i + j)) [
        | inl before ↦ get_or_append_left _ _ d j (omega arith) ∙ get_or-drop i xs j d ∙ ap (λ m. get_or xs m d) (sym before.1)
        | inr round ↦ get_or-append_right _ _ (N - i) j d (omega arith) (omega arith) ∙ get_or-take i xs _ d (omega arith) ∙ ap (λ m. get_or xs m d) (omega arith)
      ]

-- A second block, since these use the lemmas above at other windows.
module _ {X : Type 0} (N i k : ℕ) (xs : List X) (starts : i < N) (within : k ≤ N) (fill : length xs ≡ N) where
  -- what is written behind the last stands at the end
  pub window_push : (x : X) → k < N → window i (k + 1) (set xs (wrap N (i + k)) x) ≡ window i k xs ++ x ∷ []
  window_push x room =
      let ys = set xs (wrap N (i + k)) x in
      let length_ys = length-set xs (wrap N (i + k)) x ∙ fill in
      let length_old = length-window N i k xs starts within fill in
      let length_new = length-window N i (k + 1) ys starts (omega arith) length_ys in
      let place = wraps_once N (i + k) in
      same_lists _ _ (grind (arith, common_steps)) (λ j d low. grind (
        arith,
        common_steps,
        wraps_once N (i + j),
        get_or-window N i k xs starts within fill j d,
        get_or-window N i (k + 1) ys starts (omega arith) length_ys j d,
      ))

  -- the first, and then the window from the next place on
  pub window_pop : (d : X) → 0 < k → window i k xs ≡ get_or xs i d ∷ window (wrap N (i + 1)) (k - 1) xs
  window_pop e some =
      let next : wrap N (i + 1) < N = grind (arith, wraps_once N (i + 1)) in
      let length_old = length-window N i k xs starts within fill in
      let length_new = length-window N (wrap N (i + 1)) (k - 1) xs next (omega arith) fill in
      let old = get_or-window N i k xs starts within fill in
      drop_more _ 0 e (omega arith) ∙ ap₂ ◌∷◌ (grind (arith, old 0 e, wraps_once N i)) (same_lists _ _ (simp length-drop (omega arith)) (λ j d low. grind (
        arith,
        length-drop 1 (window i k xs),
        get_or-drop 1 (window i k xs) j d,
        wraps_once N (i + 1),
        wraps_once N (wrap N (i + 1) + j),
        wraps_once N (i + (1 + j)),
        old (1 + j) d,
        get_or-window N _ (k - 1) xs next (omega arith) fill j d,
      )))

-- the first k of two lists in two runs
pub two_runs : {X : Type 0} (high low : List X) (k m : ℕ) → m ≡ k - length high → take (k - m) high ++ take m low ≡ take k (high ++ low)
two_runs high low k m is = elim (cases_lt k (length high)) [
  | inl within ↦
      let none : m ≡ 0 = omega arith in
      let all : k - m ≡ k = omega arith in
      ap₂ (λ a b. take a high ++ take b low) all none ∙ append-nil (take k high) ∙ sym (take-append-le k high low (omega arith))
  | inr past ↦
      let whole : length high ≤ k - m = omega arith in
      let both : length high + m ≡ k = omega arith in
      ap (λ xs. xs ++ take m low) (take_all (k - m) high whole) ∙ sym (take-append-add high low m) ∙ ap (λ n. take n (high ++ low)) both
]

-- where a ticket is not among commands, it is not among the first of them or the last of them
none_part : (t i : ℕ) (xs : List Command) → among t xs ≡ false → (among t (take i xs) ≡ false) × (among t (drop i xs) ≡ false)
none_part t i xs none = or_parts (among t (take i xs)) (among t (drop i xs)) (sym (among-append t (take i xs) (drop i xs)) ∙ ap (among t) (take-append-drop i xs) ∙ none)

-- a ticket that is at no place is not in the window
pub among_none : (t i k : ℕ) (xs : List Command) → among t xs ≡ false → among t (window i k xs) ≡ false
among_none t i k xs none =
    let parts = none_part t i xs none in
    (none_part t k (drop i xs ++ take i xs) (among-append t (drop i xs) (take i xs) ∙ or_from _ _ parts.1 parts.0)).0
