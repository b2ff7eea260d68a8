use Rattle.std.proofs.Common.{◌≡◌, length, take, ◌∙◌, arith}
use Rattle.std.proofs.lemmas.List.{length-take-le}
use Rattle.heap.proofs.Held as held
use Rattle.heap.proofs.edits.remove.Goals as goal

pub returns : goal.returns
returns g c =
    let laws = g.met.T.TotalOrder in
    let gone = c.delete-gone in
    let wide : length (take c.min-held.result c.args.items.now) ≡ c.min-held.result = length-take-le c.min-held.result c.args.items.now (omega arith) in
    held.removes g.T.TotalOrder.upto laws.total laws.transitive c.args.items.now gone.new.held c.args.len.now c.min-held.result _ _ c.args.at gone.result (omega arith) (omega arith) (omega arith) (omega arith) (gone.ensures.long ∙ wide) gone.ensures.is gone.ensures.shuffled gone.ensures.heaped
