-- What a queue card answers, and what it holds then. What it holds is a queue: a list of commands, oldest first.
use Rattle.std.specs.Prelude.{ℕ, cond, List, [], ◌∷◌, ◌++◌, length, Some, None, Ok, Err, Option, Result, nat_lt}
use Rattle.card.specs.declared.Command.{Command}
use Rattle.card.specs.declared.CardFault.{CardFault}
use Rattle.card.specs.declared.CardFault.TheVariants.{Full, HeldAlready}
use Rattle.card.specs.Commands.{among}

-- submit: with 16 commands it is full; else a ticket that is held is refused; else the command goes to the end
abbrev pub submit_rule : List Command → Command → Result (Unit {0}) CardFault × List Command
submit_rule queue c = cond (nat_lt (length queue) 16) (cond (among c.ticket queue) (Err HeldAlready, queue) (Ok tt, queue ++ c ∷ [])) (Err Full, queue)

-- finish: the oldest goes, with status 0
abbrev pub finish_rule : List Command → Option (ℕ × ℕ) × List Command
finish_rule [] = (None, [])
finish_rule (c ∷ rest) = (Some (c.ticket, 0), rest)
