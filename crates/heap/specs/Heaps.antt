-- Heaps, and what each method of `Heap` does to the records that are held. `upto x y` says whether x is at or before y.
use Rattle.std.specs.Prelude.{◌≡◌, ℕ, ◌+◌, ◌*◌, ◌/◌, ◌<◌, ◌≤◌, min, Bool, true, false, List, ◌∷◌, length, take, Some, None, Option, ◌≢◌, slice_index_or, slice_set}
use Rattle.std.specs.List.Sorted.{IsPermutation}

-- the place k is a child of the place p
abbrev pub Child : ℕ → ℕ → Type 0
Child p k = (p * 2 + 1 ≤ k) × (k ≤ p * 2 + 2)

module _ {X : Type 0} (upto : X → X → Bool) where
  -- x is at or before each of xs
  unfoldable pub Least : X → List X → Type 0
  Least x xs = (k : ℕ) (d : X) → k < length xs → upto x (slice_index_or xs k d) ≡ true

  -- xs is a heap: each record is at or before its children (the parent of k + 1 is k / 2)
  abbrev pub Heaped : List X → Type 0
  Heaped xs = (k : ℕ) (d : X) → k + 1 < length xs → upto (slice_index_or xs (k / 2) d) (slice_index_or xs (k + 1) d) ≡ true

  -- the parent of j is at or before the children of j
  abbrev Across : List X → ℕ → Type 0
  Across xs j = (p k : ℕ) (d : X) → Child p j → Child j k → k < length xs → upto (slice_index_or xs p d) (slice_index_or xs k d) ≡ true

  -- a heap, but that the record at j may come before its parent
  unfoldable pub Rising : List X → ℕ → Type 0
  Rising xs j = ((p k : ℕ) (d : X) → Child p k → k < length xs → (k ≢ j) → upto (slice_index_or xs p d) (slice_index_or xs k d) ≡ true) × Across xs j

  -- a heap, but for the record at j, which may be any
  unfoldable pub Free : List X → ℕ → Type 0
  Free xs j = ((p k : ℕ) (d : X) → Child p k → k < length xs → (p ≢ j) → (k ≢ j) → upto (slice_index_or xs p d) (slice_index_or xs k d) ≡ true) × Across xs j

  -- the record at c is at or before each child of j
  unfoldable pub LeastChild : List X → ℕ → ℕ → Type 0
  LeastChild xs j c = (k : ℕ) (d : X) → Child j k → k < length xs → upto (slice_index_or xs c d) (slice_index_or xs k d) ≡ true

  -- the hole h with x in it, and the same after a step up: its parent p, if x came before the record there, which moved down (true), or else h still (false)
  abbrev pub Lifted : List X → ℕ → ℕ → X → Bool → List X → Type 0
  Lifted xs h p x true ys = IsPermutation (slice_set xs h x) (slice_set ys p x) × (Rising (slice_set xs h x) h → Rising (slice_set ys p x) p)
  Lifted xs h p x false ys = (ys ≡ xs) × (Rising (slice_set xs h x) h → Heaped (slice_set xs h x))

  -- In what follows the first n of the items xs are held before, and the first m of ys after; n may pass the end, and then all of xs are held.
  -- `IsPermutation` says that two lists have the same records, each as often.

  -- nothing was changed
  abbrev pub Stayed : List X → ℕ → List X → ℕ → Type 0
  Stayed xs n ys m = (ys ≡ xs) × (m ≡ n)

  -- x was taken in: exactly one more is held
  pub record Took (xs : List X) (n : ℕ) (x : X) (ys : List X) (m : ℕ) : Type 0 where
    pub room : n < length xs
    pub long : length ys ≡ length xs
    pub len : m ≡ n + 1
    pub held : IsPermutation (x ∷ take n xs) (take m ys)
    pub ordered : Heaped (take n xs) → Heaped (take m ys)

  -- x, which was held in the place `at`, was given out: exactly the others are left. From the first place of a heap it is the least.
  pub record Lost (xs : List X) (n at : ℕ) (x : X) (ys : List X) (m : ℕ) : Type 0 where
    pub place : at < min n (length xs)
    pub is : (d : X) → x ≡ slice_index_or (take n xs) at d
    pub long : length ys ≡ length xs
    pub len : m + 1 ≡ min n (length xs)
    pub held : IsPermutation (take n xs) (x ∷ take m ys)
    pub least : at ≡ 0 → Heaped (take n xs) → Least x (take n xs)
    pub ordered : Heaped (take n xs) → Heaped (take m ys)

  -- x came in for y, which was held in the place `at`
  pub record Traded (xs : List X) (n at : ℕ) (x y : X) (ys : List X) (m : ℕ) : Type 0 where
    pub place : at < min n (length xs)
    pub is : (d : X) → y ≡ slice_index_or (take n xs) at d
    pub long : length ys ≡ length xs
    pub len : m ≡ n
    pub held : IsPermutation (x ∷ take n xs) (y ∷ take m ys)
    pub ordered : Heaped (take n xs) → Heaped (take m ys)

  -- x is the first that is held, and in a heap the least
  pub record Seen (xs : List X) (n : ℕ) (x : X) : Type 0 where
    pub some : 0 < min n (length xs)
    pub first : (d : X) → x ≡ slice_index_or (take n xs) 0 d
    pub least : Heaped (take n xs) → Least x (take n xs)

  -- a push of x, by its answer: false where it is full
  abbrev pub Pushed : List X → ℕ → X → Bool → List X → ℕ → Type 0
  Pushed xs n x true ys m = Took xs n x ys m
  Pushed xs n x false ys m = (length xs ≤ n) × Stayed xs n ys m

  -- a removal from the place `at`, by its answer: None where none is held there
  abbrev pub Removed : List X → ℕ → ℕ → Option X → List X → ℕ → Type 0
  Removed xs n at (Some x) ys m = Lost xs n at x ys m
  Removed xs n at None ys m = (min n (length xs) ≤ at) × Stayed xs n ys m

  -- a pop is a removal from the first place
  abbrev pub Popped : List X → ℕ → Option X → List X → ℕ → Type 0
  Popped xs n r ys m = Removed xs n 0 r ys m

  -- a replacement in the place `at` by x, by its answer: None where none is held there
  abbrev pub Replaced : List X → ℕ → ℕ → X → Option X → List X → ℕ → Type 0
  Replaced xs n at x (Some y) ys m = Traded xs n at x y ys m
  Replaced xs n at x None ys m = (min n (length xs) ≤ at) × Stayed xs n ys m

  -- a look at the least, by its answer: None where none is held
  abbrev pub Peeked : List X → ℕ → Option X → Type 0
  Peeked xs n (Some x) = Seen xs n x
  Peeked xs n None = min n (length xs) ≤ 0
