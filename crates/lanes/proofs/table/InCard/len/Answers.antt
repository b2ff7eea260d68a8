use Rattle.std.proofs.Common.{sym}
use Rattle.lanes.proofs.Removed.{length_held}
use Rattle.lanes.proofs.table.InCard.len.Goals as goal

pub returns-clause-count : goal.returns-clause-count
returns-clause-count c = let t = c.args.self.now in sym (length_held t.slots t.count t.sized t.within)
