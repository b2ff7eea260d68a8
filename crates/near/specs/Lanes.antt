-- The eight lanes, how far apart they are, and sets of them: a set is a number with bit k for lane k.
use Rattle.std.specs.Prelude.{◌≡◌, ℕ, zero, suc, ◌+◌, ◌/◌, ◌%◌, ◌^◌, ◌<◌, ◌≤◌, cond, List, [], ◌∷◌, ◌==◌, slice_index, slice_index_or, Option, MatchOption}

-- lane k is in the set
abbrev pub In : ℕ → ℕ → Type 0
In set k = set / 2 ^ k % 2 ≡ 1

-- how many of the first n lanes are in the set
abbrev pub members : ℕ → ℕ → ℕ
members set zero = 0
members set (suc n) = set / 2 ^ n % 2 + members set n

-- how far two lanes are apart
abbrev pub table : List (List ℕ)
table =
    (0 ∷ 1 ∷ 1 ∷ 1 ∷ 2 ∷ 2 ∷ 2 ∷ 2 ∷ [])
    ∷ (1 ∷ 0 ∷ 1 ∷ 1 ∷ 2 ∷ 2 ∷ 2 ∷ 2 ∷ [])
    ∷ (1 ∷ 1 ∷ 0 ∷ 1 ∷ 2 ∷ 2 ∷ 2 ∷ 2 ∷ [])
    ∷ (1 ∷ 1 ∷ 1 ∷ 0 ∷ 2 ∷ 2 ∷ 2 ∷ 2 ∷ [])
    ∷ (2 ∷ 2 ∷ 2 ∷ 2 ∷ 0 ∷ 1 ∷ 1 ∷ 1 ∷ [])
    ∷ (2 ∷ 2 ∷ 2 ∷ 2 ∷ 1 ∷ 0 ∷ 1 ∷ 1 ∷ [])
    ∷ (2 ∷ 2 ∷ 2 ∷ 2 ∷ 1 ∷ 1 ∷ 0 ∷ 1 ∷ [])
    ∷ (2 ∷ 2 ∷ 2 ∷ 2 ∷ 1 ∷ 1 ∷ 1 ∷ 0 ∷ [])
    ∷ []

-- how far lane k is from lane l
abbrev pub distance : ℕ → ℕ → ℕ
distance l k = slice_index (slice_index_or table l []) k

-- the rule of the table
abbrev pub apart : ℕ → ℕ → ℕ
apart l k = cond (l == k) 0 (cond (l / 4 == k / 4) 1 2)

abbrev pub Distances : Type 0
Distances = (l k : ℕ) → l < 8 → k < 8 → distance l k ≡ apart l k

-- k is ready, none that is ready is nearer, and none that is as near has a lower number
pub record Nearest (row : List ℕ) (ready k : ℕ) : Type 0 where
  pub within : k < 8
  pub ready_k : In ready k
  pub none_nearer : (j : ℕ) → j < 8 → In ready j → slice_index row k ≤ slice_index row j
  pub first : (j : ℕ) → j < k → In ready j → slice_index row k < slice_index row j

-- k is the nearest of the ready lanes that are not among the rest, best far away, and the rest have higher numbers
pub record Chosen (row : List ℕ) (ready rest k best : ℕ) : Type 0 where
  pub within : k < 8
  pub ready_k : In ready k
  pub far : best ≡ slice_index row k
  pub before : (j : ℕ) → j < 8 → In rest j → k < j
  pub none_nearer : (j : ℕ) → j < 8 → In ready j → (In rest j → ⊥) → slice_index row k ≤ slice_index row j
  pub first : (j : ℕ) → j < k → In ready j → slice_index row k < slice_index row j

-- the rest of the ready lanes is still to be visited; of the others one is chosen, with how far it is
pub record Sought (row : List ℕ) (ready rest : ℕ) (nearest : Option (ℕ × ℕ)) : Type 0 where
  pub among : (j : ℕ) → j < 8 → In rest j → In ready j
  pub chosen : MatchOption nearest (rest ≡ ready) (λ p. Chosen row ready rest p.0 p.1)
