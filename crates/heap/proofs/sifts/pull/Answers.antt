use Rattle.std.proofs.Common.{set, arith}
use Rattle.std.proofs.lemmas.List.{length-set}
use Rattle.heap.proofs.Steps as steps
use Rattle.heap.proofs.sifts.pull.Goals as goal

pub returns : goal.returns
returns g c =
    let upto = g.T.TotalOrder.upto in
    let laws = g.met.T.TotalOrder in
    let s = c.args.s.now in
    let hole = c.args.hole in
    let child = c.args.child in
    let y = c.index-s-child.result in
    let down = c.requires.child in
    record {
      shuffled = λ x. steps.hole_shuffles s hole child x y (omega arith) (omega arith) (omega arith) c.index-s-child.is;
      free = λ x h.
          let before = length-set s hole x in
          let between = length-set s hole y in
          let after = length-set (set s hole y) child x in
          steps.sink_steps upto laws.total laws.transitive (set s hole x) (set (set s hole y) child x) hole child down.0 (omega arith) (omega arith)
          (steps.hole_swaps s hole child x y (omega arith) (omega arith) (omega arith) c.index-s-child.is)
          (steps.least_child_set upto laws.total laws.transitive s hole child x down.0 c.requires.least) h;
    }
