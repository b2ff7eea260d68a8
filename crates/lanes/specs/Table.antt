-- What is in the card, in the order of tickets.
use Rattle.std.specs.Prelude.{◌≡◌, ℕ, ◌≤◌, List, take, Some, None, sum_by, Option}
use Rattle.heap.specs.Sorting.{insert, sorted}
use Rattle.lanes.specs.Records.{by_ticket, ticket_is}
use Rattle.lanes.specs.declared.records.Request.{Request}
use Rattle.lanes.specs.declared.table.InCard.{InCard}

-- the requests in the card
abbrev pub in_card_of : InCard → List Request
in_card_of c = sorted by_ticket (take c.count c.slots)

-- a request with the ticket t leaves and is the answer; where tickets differ none with t is left; without one nothing changes
abbrev pub Removes : ℕ → List Request → Option Request → List Request → Type 0
Removes t xs None ys = (ys ≡ xs) × (sum_by (ticket_is t) xs ≡ 0)
Removes t xs (Some x) ys = (x.ticket ≡ t) × (xs ≡ insert by_ticket x ys) × (sum_by (ticket_is t) xs ≤ 1 → sum_by (ticket_is t) ys ≡ 0)
