use Rattle.std.proofs.Common.{set, refl, Some, None, arith}
use Rattle.lanes.specs.Leads.{leads_of}
use Rattle.lanes.specs.Waits.{waits}
use Rattle.lanes.proofs.Arrays.{lane_set, pops_at}
use Rattle.lanes.proofs.Changed.{keeps_pop, keeps_refused, keeps_room}
use Rattle.lanes.proofs.lanes.Lanes.pop.Goals as goal

pub invariant_of-self : goal.invariant_of-self
invariant_of-self c =
    let l = c.args.self.now in
    let same = pops_at l.lanes c.args.i c.index-self-i.result c.pop.new.self None (omega (arith, l.eight)) c.in_err-gone.ensures in
    let k = keeps_refused l.lanes (leads_of l.leads) l.eight l.tied c.args.i c.if-i-ge-LANES.false (set l.lanes c.args.i c.pop.new.self) same.1 in
    record { eight = k.0; tied = k.1 }

pub update-requires : goal.update-requires
update-requires c =
    let l = c.args.self.now in
    keeps_room l.lanes (leads_of l.leads) l.eight l.tied c.args.i c.if-i-ge-LANES.false

pub invariant_of-self-2 : goal.invariant_of-self-2
invariant_of-self-2 c =
    let l = c.args.self.now in
    let k = keeps_pop l.lanes (leads_of l.leads) l.eight l.tied c.args.i c.if-i-ge-LANES.false (set l.lanes c.args.i c.pop.new.self) (leads_of c.update.new.self) (waits c.pop.new.self) c.lead-next.result c.lead_of.result (lane_set l.lanes c.args.i c.pop.new.self (waits c.pop.new.self) refl) c.lead-next.ensures c.lead_of.ensures c.update.ensures in
    record { eight = k.0; tied = k.1 }

pub returns : goal.returns
returns c =
    let l = c.args.self.now in
    pops_at l.lanes c.args.i c.index-self-i.result c.pop.new.self (Some c.in_ok-gone.gone) (omega (arith, l.eight)) c.in_ok-gone.ensures
