use Rattle.std.proofs.Common.{refl, arith}
use Rattle.heap.proofs.Held as held
use Rattle.heap.proofs.edits.push.Goals as goal

pub returns : goal.returns
returns g c =
    let laws = g.met.T.TotalOrder in
    held.pushes g.T.TotalOrder.upto laws.total laws.transitive c.args.items.now c.rise.new.s c.args.len.now _ c.args.x refl (omega arith) c.rise.ensures.shuffled c.rise.ensures.heaped
