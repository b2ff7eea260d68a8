use Rattle.lanes.specs.Lanes.{lanes_of}
use Rattle.lanes.proofs.Facts.{lanes_ordered}
use Rattle.lanes.proofs.Leasts.{least_stands_lem}
use Rattle.lanes.proofs.clock.least_stands.Goals as goal

pub returns : goal.returns
returns c v l = least_stands_lem v (lanes_of l) (lanes_ordered l)
