-- What callers may use of the lanes and of the table. Assumes nothing.
use Rattle.std.proofs.Common.{◌≡◌, ℕ, zero, suc, ◌<◌, ◌≤◌, true, ltb, List, [], ◌∷◌, length, get_or, take, ◌∙◌, arith}
use Rattle.std.specs.List.{AllByRecursion}
use Rattle.std.proofs.lemmas.List.{length-map, length-take}
use Rattle.std.proofs.lemmas.Bool.{and_from, lt-ltb}
use Rattle.heap.proofs.Sorting.{Ordered, Ordered-sorted, length-sorted}
use Rattle.lanes.specs.Lanes.{has_room, lanes_of}
use Rattle.lanes.specs.Records.{by_start, by_ticket}
use Rattle.lanes.specs.Table.{in_card_of}
use Rattle.lanes.specs.Waits.{lanes_in, waits}
use Rattle.lanes.specs.declared.lane.Lane.{Lane}
use Rattle.lanes.specs.declared.records.Request.{Request}
use Rattle.lanes.specs.declared.lanes.Lanes.{Lanes}
use Rattle.lanes.specs.declared.table.InCard.{InCard}

-- there are eight lanes
pub lanes_eight : (l : Lanes) → length (lanes_of l) ≡ 8
lanes_eight l = length-map l.lanes waits ∙ l.eight

-- at most 32 wait in a lane
pub lanes_few : (l : Lanes) (i : ℕ) → length (get_or (lanes_of l) i []) ≤ 32
lanes_few l i = go l.lanes i
  where
    go : (ls : List Lane) (i : ℕ) → length (get_or (lanes_in ls) i []) ≤ 32
    go [] i = omega arith
    go (v ∷ ls) zero = omega (arith, length-sorted by_start v.requests, v.within)
    go (v ∷ ls) (suc i) = go ls i

-- each lane is in order
pub lanes_ordered : (l : Lanes) → AllByRecursion (Ordered by_start) (lanes_of l)
lanes_ordered l = go l.lanes
  where
    go : (ls : List Lane) → AllByRecursion (Ordered by_start) (lanes_in ls)
    go [] = tt
    go (v ∷ ls) = (Ordered-sorted by_start v.requests, go ls)

-- in order of tickets
pub in_card_ordered : (c : InCard) → Ordered by_ticket (in_card_of c)
in_card_ordered c = Ordered-sorted by_ticket (take c.count c.slots)

-- at most 32 are in the card
pub in_card_few : (c : InCard) → length (in_card_of c) ≤ 32
in_card_few c = omega (arith, length-sorted by_ticket (take c.count c.slots), length-take c.count c.slots, c.within)

-- a lane that is there and holds fewer than 32 has room
pub has_room_lem : (i : ℕ) (ls : List (List Request)) → i < 8 → length (get_or ls i []) < 32 → has_room i ls ≡ true
has_room_lem i ls b l = and_from (ltb i 8) (ltb (length (get_or ls i [])) 32) (lt-ltb i 8 b) (lt-ltb (length (get_or ls i [])) 32 l)
