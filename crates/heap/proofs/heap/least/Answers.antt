use Rattle.std.proofs.Common.{◌∙◌, arith}
use Rattle.heap.proofs.Held as held
use Rattle.heap.proofs.heap.least.Goals as goal

pub returns : goal.returns
returns g c =
    let laws = g.met.T.TotalOrder in
    record { peeked = held.peeks g.T.TotalOrder.upto laws.total laws.transitive c.args.items.now c.args.len c.min.result c.copied.result (omega arith) (c.copied.ensures ∙ c.first.ensures.value) }
