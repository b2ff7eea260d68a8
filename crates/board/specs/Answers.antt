-- The answers of the calls: each case has its number and its values. Numbers below 6 are answers, those from 6 on refusals.
use Rattle.std.specs.Prelude.{ℕ, List, [], ◌∷◌, Ok, Err, Result}
use Rattle.books.specs.Model.{Arrival}
use Rattle.books.specs.Refusals.{refusal_of}
use Rattle.books.specs.declared.refusal.Refusal.{Refusal}
use Rattle.board.specs.declared.answer.Reaping.{Reaping}
use Rattle.board.specs.declared.answer.Reaping.TheVariants.{Finished, NotYet, Idle}
use Rattle.board.specs.declared.answer.Sending.{Sending}
use Rattle.board.specs.declared.answer.Sending.TheVariants.{Empty, Throttled, NoSlot, Sent}

abbrev pub outcome_of : {A : Type 0} → (A → ℕ × List ℕ) → Result A Refusal → ℕ × List ℕ
outcome_of view (Ok a) = view a
outcome_of view (Err r) = refusal_of r

-- load answers nothing
abbrev pub loading_of : Unit {0} → ℕ × List ℕ
loading_of _ = (0, [])

-- arrive: the ticket, the start tag and the end tag
abbrev pub arrival_of : Arrival → ℕ × List ℕ
arrival_of a = (0, a.0 ∷ a.1.0 ∷ a.1.1 ∷ [])

-- send and kick: the excess of what is throttled; ticket, flow and charge of what is sent
abbrev pub sending_of : Sending → ℕ × List ℕ
sending_of Empty = (0, [])
sending_of (Throttled excess) = (1, excess ∷ [])
sending_of NoSlot = (2, [])
sending_of (Sent ticket flow charge) = (3, ticket ∷ flow ∷ charge ∷ [])

-- reap: ticket, flow, charge and status of what has finished
abbrev pub reaping_of : Reaping → ℕ × List ℕ
reaping_of (Finished ticket flow charge status) = (3, ticket ∷ flow ∷ charge ∷ status ∷ [])
reaping_of NotYet = (1, [])
reaping_of Idle = (0, [])
