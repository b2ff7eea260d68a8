-- Lists of records in order. `by` lists a record's numbers, the most important first.
use Rattle.std.specs.Prelude.{◌≡◌, ℕ, Bool, true, false, cond, ◌&&◌, ◌||◌, List, [], ◌∷◌, Some, None, Option, ◌==◌, nat_lt}
use Rattle.std.specs.List.{AllByRecursion}
use Rattle.std.specs.List.Sorted.{IsPermutation}

-- the order of a dictionary: whether the first list of numbers is at or before the second
abbrev pub upto : List ℕ → List ℕ → Bool
upto [] bs = true
upto (a ∷ as') [] = false
upto (a ∷ as') (b ∷ bs) = nat_lt a b || (a == b && upto as' bs)

-- the first of a list
abbrev pub head_of : {X : Type 0} → List X → Option X
head_of [] = None
head_of (x ∷ xs) = Some x

-- the first of xs goes and is the answer, and ys is what is left; without one nothing changes
abbrev pub Pops : {X : Type 0} → List X → Option X → List X → Type 0
Pops xs None ys = (xs ≡ []) × (ys ≡ [])
Pops xs (Some x) ys = xs ≡ x ∷ ys

module _ {X : Type 0} (by : X → List ℕ) where
  -- x goes in before the first that it is at or before
  abbrev pub insert : X → List X → List X
  insert x [] = x ∷ []
  insert x (y ∷ ys) = cond (upto (by x) (by y)) (x ∷ y ∷ ys) (y ∷ insert x ys)

  -- the records, each inserted in turn
  abbrev pub sorted : List X → List X
  sorted [] = []
  sorted (x ∷ xs) = insert x (sorted xs)

  -- x is at or before y
  abbrev pub First : X → X → Type 0
  First x y = upto (by x) (by y) ≡ true

  -- each record is at or before all that follow
  abbrev pub Ordered : List X → Type 0
  Ordered [] = Unit {0}
  Ordered (x ∷ xs) = AllByRecursion (First x) xs × Ordered xs

  -- ys has the records of xs, each as often, in order
  pub record Sorts (xs ys : List X) : Type 0 where
    pub same : IsPermutation xs ys
    pub ordered : Ordered ys

-- `sorted` sorts; an insertion into a list in order sorts; and where its numbers tell a record, a list has no other sorting than `sorted`.
pub record SortingStands (X : Type 0) (by : X → List ℕ) : Type 0 where
  pub sorts : (xs : List X) → Sorts by xs (sorted by xs)
  pub inserts : (x : X) (ys : List X) → Ordered by ys → Sorts by (x ∷ ys) (insert by x ys)
  pub unique : ((x y : X) → by x ≡ by y → x ≡ y) → (xs ys : List X) → Sorts by xs ys → ys ≡ sorted by xs
