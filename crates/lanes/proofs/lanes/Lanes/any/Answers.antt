use Rattle.std.proofs.Common.{ltb, ap, ◌∙◌}
use Rattle.lanes.specs.Lanes.{lanes_of}
use Rattle.lanes.specs.Leads.{leads_of}
use Rattle.lanes.proofs.Gathers.{tied_length}
use Rattle.lanes.proofs.lanes.Lanes.any.Goals as goal

pub returns : goal.returns
returns c = let l = c.args.self.now in c.any.ensures ∙ ap (ltb 0) (tied_length (leads_of l.leads) (lanes_of l) l.tied)
