use Rattle.std.proofs.Common.{◌≡◌, ◌<◌, length, set}
use Rattle.std.specs.List.Sorted.{IsPermutation}
use Rattle.heap.specs.Heaps.{Rising}
use Rattle.heap.proofs.sifts.rise.Given as goal

abbrev pub invariant-loop-hole : goal.invariant-loop-hole
invariant-loop-hole g l =
    let upto = g.T.TotalOrder.upto in
    (l.hole < length l.s) × (length l.s ≡ length l.initial.s) × IsPermutation (set l.initial.s l.at l.x) (set l.s l.hole l.x) × (Rising upto (set l.initial.s l.at l.x) l.at → Rising upto (set l.s l.hole l.x) l.hole)

abbrev pub decreases-loop-hole : goal.decreases-loop-hole
decreases-loop-hole g l = l.hole
