use Rattle.std.proofs.Common.{arith}
use Rattle.heap.proofs.Held as held
use Rattle.heap.proofs.edits.delete.Goals as goal

pub returns-then-at-last-clause-shuffled : goal.returns-then-at-last-clause-shuffled
returns-then-at-last-clause-shuffled g c =
    let laws = g.met.T.TotalOrder in
    (held.deletes g.T.TotalOrder.upto laws.total laws.transitive c.args.held.now c.settle.new.s _ c.args.at _ c.index-held-last.result (omega arith) (omega arith) c.index-held-at.is c.index-held-last.is c.settle.ensures.shuffled c.settle.ensures.heaped).0

pub returns-then-at-last-clause-heaped : goal.returns-then-at-last-clause-heaped
returns-then-at-last-clause-heaped g c =
    let laws = g.met.T.TotalOrder in
    (held.deletes g.T.TotalOrder.upto laws.total laws.transitive c.args.held.now c.settle.new.s _ c.args.at c.index-held-at.result c.index-held-last.result (omega arith) (omega arith) c.index-held-at.is c.index-held-last.is c.settle.ensures.shuffled c.settle.ensures.heaped).1

pub returns-else-at-last-clause-shuffled : goal.returns-else-at-last-clause-shuffled
returns-else-at-last-clause-shuffled g c =
    let laws = g.met.T.TotalOrder in
    held.deletes_last g.T.TotalOrder.upto laws.total laws.transitive c.args.held.now _ c.args.at _ (omega arith) (omega arith) (omega arith) c.index-held-at.is
