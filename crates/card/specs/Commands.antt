-- What a card holds, as a list of commands whose order means nothing, and how one call changes it.
use Rattle.std.specs.Prelude.{◌≡◌, ℕ, ◌+◌, ◌<◌, ◌≤◌, Bool, true, false, cond, ◌||◌, List, [], ◌∷◌, length, Some, None, Ok, Err, Option, Result, ◌==◌}
use Rattle.std.specs.List.Sorted.{IsPermutation}
use Rattle.card.specs.declared.Command.{Command}
use Rattle.card.specs.declared.CardFault.{CardFault}
use Rattle.card.specs.declared.CardFault.TheVariants.{Full, HeldAlready}

-- the command with this ticket and this length
abbrev pub command : ℕ → ℕ → Command
command t n = record { ticket = t; sectors = n }

-- whether a ticket is among commands
abbrev pub among : ℕ → List Command → Bool
among t [] = false
among t (c ∷ cs) = c.ticket == t || among t cs

-- how often a ticket stands among commands
abbrev pub tally : ℕ → List Command → ℕ
tally t [] = 0
tally t (c ∷ cs) = cond (c.ticket == t) 1 0 + tally t cs

-- the same commands, in any order
abbrev pub Same : List Command → List Command → Type 0
Same before after = IsPermutation before after

-- the same commands and one more, in any order
abbrev pub More : Command → List Command → List Command → Type 0
More c few many = IsPermutation (c ∷ few) many

-- what submit of a command does: full is asked first, and what is refused changes nothing
abbrev pub Submitted : ℕ → List Command → Command → Result (Unit {0}) CardFault → List Command → Type 0
Submitted depth before c (Ok _) after = (length before < depth) × (among c.ticket before ≡ false) × More c before after
Submitted depth before c (Err Full) after = (depth ≤ length before) × Same before after
Submitted depth before c (Err HeldAlready) after = (length before < depth) × (among c.ticket before ≡ true) × Same before after

-- what finish does: nothing, or one command with the ticket that it answers is gone
abbrev pub Finished : List Command → Option (ℕ × ℕ) → List Command → Type 0
Finished before None after = Same before after
Finished before (Some done) after = (n : ℕ) × More (command done.0 n) after before
