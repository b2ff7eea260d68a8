-- What the rules of a bank card come to, in words of its banks.
use Rattle.std.specs.Prelude.{◌≡◌, ℕ, ◌+◌, ◌*◌, ◌<◌, ◌≤◌, List, [], ◌∷◌, map, Some, None, Option, ◌≢◌, slice_index_or}
use Rattle.bank.specs.Jobs.{Job, work_of, lowered}
use Rattle.bank.specs.Rules.{finish_rule}

-- a bank that has nothing to answer: it is empty, or there is work left on its oldest command
abbrev pub Waits : List Job → Type 0
Waits [] = Unit {0}
Waits (j ∷ jobs) = 0 < j.left

-- just the oldest job j leaves bank b, and the other banks stay as they are
pub record Left (banks : List (List Job)) (b : ℕ) (j : Job) (after : List (List Job)) : Type 0 where
  pub bank : slice_index_or banks b [] ≡ j ∷ slice_index_or after b []
  pub others : (k : ℕ) → (k ≢ b) → slice_index_or after k [] ≡ slice_index_or banks k []

-- nothing, where every bank waits; else the oldest command of the lowest bank that does not wait, with status 0
abbrev pub Answered : List (List Job) → Option (ℕ × ℕ) → List (List Job) → Type 0
Answered banks None after = ((b : ℕ) → Waits (slice_index_or banks b [])) × (after ≡ banks)
Answered banks (Some done) after = (b : ℕ) × (j : Job) × (j.left ≡ 0) × (done ≡ (j.command.ticket, 0)) × Left banks b j after × ((k : ℕ) → k < b → Waits (slice_index_or banks k []))

pub record Laws : Type 0 where
  -- a finish answers so, once each bank's oldest command has one piece of work less
  pub answers : (banks : List (List Job)) → Answered (map lowered banks) (finish_rule banks).0 (finish_rule banks).1
  -- the work of a command is its sectors in pieces of 64, rounded up
  pub rounds : (n : ℕ) → (n ≤ 64 * work_of n) × (64 * work_of n < n + 64)
