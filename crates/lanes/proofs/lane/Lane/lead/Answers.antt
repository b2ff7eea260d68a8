use Rattle.std.proofs.Common.{refl}
use Rattle.heap.proofs.Queue.{leads_head}
use Rattle.lanes.specs.Records.{by_start}
use Rattle.lanes.proofs.Held.{told_by_start}
use Rattle.lanes.proofs.lane.Lane.lead.Goals as goal

pub returns : goal.returns
returns c = leads_head by_start told_by_start _ (λ _ _. refl) c.args.self.now.requests c.peek.result c.peek.ensures
