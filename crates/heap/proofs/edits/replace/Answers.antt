use Rattle.std.proofs.Common.{arith}
use Rattle.heap.proofs.Held as held
use Rattle.heap.proofs.edits.replace.Goals as goal

pub returns : goal.returns
returns g c =
    let laws = g.met.T.TotalOrder in
    held.replaces g.T.TotalOrder.upto laws.total laws.transitive c.args.items.now c.settle.new.s c.args.len c.min-held.result c.args.at c.args.x c.index-items-at.result (omega arith) (omega arith) c.index-items-at.is c.settle.ensures.shuffled c.settle.ensures.heaped
