use Rattle.std.proofs.Common.{sym, ◌∙◌}
use Rattle.heap.proofs.Sorting.{length-sorted}
use Rattle.lanes.specs.Records.{by_start}
use Rattle.lanes.proofs.lane.Lane.len.Goals as goal

pub returns-clause-count : goal.returns-clause-count
returns-clause-count c = c.len.ensures.count ∙ sym (length-sorted by_start c.args.self.now.requests)
