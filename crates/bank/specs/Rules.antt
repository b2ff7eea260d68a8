-- What a bank card answers, and its banks then.
use Rattle.std.specs.Prelude.{◌≡◌, ◌≢◌, false, ℕ, ◌+◌, ◌%◌, cond, List, [], ◌∷◌, ◌++◌, map, length, Some, None, Ok, Err, Option, Result, nat_lt, slice_index_or, slice_set}
use Rattle.card.specs.declared.Command.{Command}
use Rattle.card.specs.declared.CardFault.{CardFault}
use Rattle.card.specs.declared.CardFault.TheVariants.{Full, HeldAlready}
use Rattle.card.specs.Commands.{among}
use Rattle.ring.specs.Rings.{head_of, tail_of}
use Rattle.bank.specs.Jobs.{Job, commands_all, commands_in, fresh, lowered, ready}

-- each bank has only tickets of its own
abbrev pub Placed : List (List Job) → Type 0
Placed banks = (b t : ℕ) → (t % 4 ≢ b) → among t (commands_in (slice_index_or banks b [])) ≡ false

-- one more job at the end of bank b
abbrev pub put_in : List (List Job) → ℕ → Job → List (List Job)
put_in banks b j = slice_set banks b (slice_index_or banks b [] ++ j ∷ [])

-- submit: with 32 commands it is full; else a ticket that is held is refused; else the command goes to bank ticket mod 4
abbrev pub submit_rule : List (List Job) → Command → Result (Unit {0}) CardFault × List (List Job)
submit_rule banks c = cond (nat_lt (length (commands_all banks)) 32) (cond (among c.ticket (commands_all banks)) (Err HeldAlready, banks) (Ok tt, put_in banks (c.ticket % 4) (fresh c))) (Err Full, banks)

-- the first bank, counted from b, whose oldest command has nothing left to do
abbrev pub first_ready : ℕ → List (List Job) → Option ℕ
first_ready b [] = None
first_ready b (jobs ∷ banks) = cond (ready jobs) (Some b) (first_ready (b + 1) banks)

-- the ticket of a job, with status 0
abbrev pub answer_of : Option Job → Option (ℕ × ℕ)
answer_of None = None
answer_of (Some j) = Some (j.command.ticket, 0)

-- the oldest command of a bank goes
abbrev pub take_from : List (List Job) → Option ℕ → Option (ℕ × ℕ) × List (List Job)
take_from banks None = (None, banks)
take_from banks (Some b) = (answer_of (head_of (slice_index_or banks b [])), slice_set banks b (tail_of (slice_index_or banks b [])))

-- finish: every bank is lowered, and then the oldest command of the first bank that is ready goes
abbrev pub finish_rule : List (List Job) → Option (ℕ × ℕ) × List (List Job)
finish_rule banks = take_from (map lowered banks) (first_ready 0 (map lowered banks))
