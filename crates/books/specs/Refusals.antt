-- The refusals of the calls: each has its number, and the values that come back with it.
use Rattle.std.specs.Prelude.{ℕ, List, [], ◌∷◌}
use Rattle.card.specs.declared.CardFault.{CardFault}
use Rattle.card.specs.declared.CardFault.TheVariants.{Full, HeldAlready}
use Rattle.books.specs.declared.refusal.Refusal.{Refusal}
use Rattle.books.specs.declared.refusal.Refusal.TheVariants.{Busy, TooDeep, NoFlow, NoLane, BadLength, LaneFull, NoTicket, ByCard, Stray}

-- the card's own refusals, in the order in which the card asks
abbrev pub fault_number : CardFault → ℕ
fault_number Full = 1
fault_number HeldAlready = 2

abbrev pub refusal_of : Refusal → ℕ × List ℕ
refusal_of Busy = (6, [])
refusal_of TooDeep = (7, [])
refusal_of NoFlow = (8, [])
refusal_of NoLane = (9, [])
refusal_of BadLength = (10, [])
refusal_of LaneFull = (11, [])
refusal_of NoTicket = (12, [])
refusal_of (ByCard fault) = (13, fault_number fault ∷ [])
refusal_of (Stray ticket) = (14, ticket ∷ [])

abbrev pub number_of : Refusal → ℕ
number_of r = (refusal_of r).0
