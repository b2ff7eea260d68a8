-- The commands of a bank card, with the work that is left on each. A bank is a list of jobs, oldest first.
use Rattle.std.specs.Prelude.{ℕ, ◌+◌, ◌-◌, ◌/◌, ◌%◌, min, Bool, false, List, [], ◌∷◌, map, ◌==◌}
use Rattle.std.specs.List.{flat_map}
use Rattle.card.specs.declared.Command.{Command}

-- a command, and how much work is left on it
pub record Job : Type 0 where
  pub command : Command
  pub left : ℕ

abbrev pub job : Command → ℕ → Job
job c left = record { command = c; left = left }

-- the work of a command of n sectors: one for each 64, rounded up
abbrev pub work_of : ℕ → ℕ
work_of n = n / 64 + min 1 (n % 64)

-- a command with all its work left
abbrev pub fresh : Command → Job
fresh c = job c (work_of c.sectors)

-- commands of which only the oldest was worked on
abbrev pub jobs_from : ℕ → List Command → List Job
jobs_from left [] = []
jobs_from left (c ∷ rest) = job c left ∷ map fresh rest

-- the commands of a bank
abbrev pub commands_in : List Job → List Command
commands_in jobs = map (λ j. j.command) jobs

-- the commands of several banks
abbrev pub commands_all : List (List Job) → List Command
commands_all banks = flat_map commands_in banks

-- a bank's oldest command has one less to do, where there is anything left
abbrev pub lowered : List Job → List Job
lowered [] = []
lowered (j ∷ jobs) = job j.command (j.left - 1) ∷ jobs

-- whether a bank's oldest command has nothing left to do
abbrev pub ready : List Job → Bool
ready [] = false
ready (j ∷ jobs) = j.left == 0
