use Rattle.std.proofs.Common.{◌≡◌, ◌-◌, ◌<◌, length, set}
use Rattle.std.specs.List.Sorted.{IsPermutation}
use Rattle.heap.specs.Heaps.{Free}
use Rattle.heap.proofs.sifts.sink.Given as goal

abbrev pub invariant-loop-hole : goal.invariant-loop-hole
invariant-loop-hole g l =
    let upto = g.T.TotalOrder.upto in
    (l.hole < length l.s) × (length l.s ≡ length l.initial.s) × ((x : g.row.T.Denot) → IsPermutation (set l.initial.s l.at x) (set l.s l.hole x)) × ((x : g.row.T.Denot) → Free upto (set l.initial.s l.at x) l.at → Free upto (set l.s l.hole x) l.hole)

abbrev pub decreases-loop-hole : goal.decreases-loop-hole
decreases-loop-hole g l = length l.initial.s - l.hole
