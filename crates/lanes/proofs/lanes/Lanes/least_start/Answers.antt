use Rattle.std.proofs.Common.{◌∙◌}
use Rattle.lanes.specs.Lanes.{lanes_of}
use Rattle.lanes.specs.Leads.{leads_of}
use Rattle.lanes.proofs.Gathers.{tied_least}
use Rattle.lanes.proofs.lanes.Lanes.least_start.Goals as goal

pub returns : goal.returns
returns c =
    let l = c.args.self.now in
    c.start_of.ensures ∙ tied_least c.args.kept (lanes_of l) (leads_of l.leads) c.first.result l.tied c.first.ensures
