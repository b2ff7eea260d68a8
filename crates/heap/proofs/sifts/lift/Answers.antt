use Rattle.std.proofs.Common.{true, false, set, refl, arith}
use Rattle.std.proofs.lemmas.List.{length-set}
use Rattle.heap.proofs.Steps as steps
use Rattle.heap.proofs.sifts.lift.Goals as goal

pub returns-then-at_or_before : goal.returns-then-at_or_before
returns-then-at_or_before g c =
    let upto = g.T.TotalOrder.upto in
    let laws = g.met.T.TotalOrder in
    let s = c.args.s.now in
    let hole = c.args.hole in
    let parent = c.args.parent in
    let x = c.args.x.now in
    (refl, λ h. steps.rise_rests upto laws.total laws.transitive (set s hole x) parent hole c.requires.0 (steps.parent_read upto laws.total laws.transitive s parent hole x c.index-s-parent.result true c.requires.0 c.requires.1 c.if-at_or_before.ensures) h)

pub returns : goal.returns
returns g c =
    let upto = g.T.TotalOrder.upto in
    let laws = g.met.T.TotalOrder in
    let s = c.args.s.now in
    let hole = c.args.hole in
    let parent = c.args.parent in
    let x = c.args.x.now in
    let moved = c.index-s-parent-2 in
    let y = moved.result in
    let before = length-set s hole x in
    let between = length-set s hole y in
    let after = length-set (set s hole y) parent x in (
      steps.hole_shuffles s hole parent x y (omega arith) (omega arith) (omega arith) moved.is,
      λ h. steps.rise_steps upto laws.total laws.transitive (set s hole x) (set (set s hole y) parent x) parent hole c.requires.0 (omega arith) (omega arith)
          (steps.hole_swaps s hole parent x y (omega arith) (omega arith) (omega arith) moved.is)
          (steps.parent_read upto laws.total laws.transitive s parent hole x c.index-s-parent.result false c.requires.0 c.requires.1 c.if-at_or_before.ensures)
          h,
    )
