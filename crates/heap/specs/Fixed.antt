-- What each method of `FixedHeap` does to its records, of which it has room for n. They are heaped at all times, so the first is the least.
use Rattle.std.specs.Prelude.{◌≡◌, ℕ, ◌<◌, ◌≤◌, Bool, true, false, List, [], ◌∷◌, length, Some, None, Option, slice_index_or}
use Rattle.std.specs.List.Sorted.{IsPermutation}
use Rattle.heap.specs.Heaps.{Least}

module _ {X : Type 0} where
  -- a push of x, by its answer: false where it is full
  abbrev pub Enters : ℕ → List X → X → Bool → List X → Type 0
  Enters n xs x true ys = (length xs < n) × IsPermutation (x ∷ xs) ys
  Enters n xs x false ys = (n ≤ length xs) × (ys ≡ xs)

  -- x comes in for the record in the place `at`, which is the answer: None where none is there
  abbrev pub Swaps : List X → ℕ → X → Option X → List X → Type 0
  Swaps xs at x (Some y) ys = ((d : X) → y ≡ slice_index_or xs at d) × (at < length xs) × IsPermutation (x ∷ xs) (y ∷ ys)
  Swaps xs at x None ys = (length xs ≤ at) × (ys ≡ xs)

module _ {X : Type 0} (upto : X → X → Bool) where
  -- a removal from the place `at`, by its answer: None where none is there; exactly the others are left, and from the first place goes the least
  abbrev pub Leaves : List X → ℕ → Option X → List X → Type 0
  Leaves xs at (Some x) ys = ((d : X) → x ≡ slice_index_or xs at d) × (at < length xs) × IsPermutation xs (x ∷ ys) × (at ≡ 0 → Least upto x xs)
  Leaves xs at None ys = (length xs ≤ at) × (ys ≡ xs)

  -- a look at the first, which is the least: None where there is none
  abbrev pub Leads : List X → Option X → Type 0
  Leads xs (Some x) = ((d : X) → x ≡ slice_index_or xs 0 d) × (0 < length xs) × Least upto x xs
  Leads xs None = xs ≡ []
