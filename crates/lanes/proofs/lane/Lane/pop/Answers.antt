use Rattle.std.proofs.Common.{refl}
use Rattle.heap.proofs.Queue.{left_sorted}
use Rattle.lanes.specs.Records.{by_start}
use Rattle.lanes.proofs.Held.{told_by_start}
use Rattle.lanes.proofs.lane.Lane.pop.Goals as goal

pub returns : goal.returns
returns c = left_sorted by_start told_by_start _ (λ _ _. refl) c.args.self.now.requests c.pop.new.self c.pop.result c.pop.ensures.left
