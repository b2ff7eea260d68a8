use Rattle.std.proofs.Common.{◌<◌, length, set, true, false, ap, sym, ◌∙◌, arith}
use Rattle.heap.specs.Sorting.{head_of}
use Rattle.lanes.specs.Leads.{leads_of}
use Rattle.lanes.proofs.Arrays.{lane_at_lem, pushes_at}
use Rattle.lanes.proofs.Changed.{keeps_behind, keeps_push, keeps_refused, keeps_room}
use Rattle.lanes.proofs.lanes.Lanes.push.Goals as goal

pub invariant_of-self : goal.invariant_of-self
invariant_of-self c =
    let l = c.args.self.now in
    let same = pushes_at l.lanes c.args.i c.index-self-i.result c.push.new.self c.args.x false (omega (arith, l.eight)) c.if-not-push.ensures.after in
    let k = keeps_refused l.lanes (leads_of l.leads) l.eight l.tied c.args.i c.if-i-ge-LANES.false (set l.lanes c.args.i c.push.new.self) same in
    record { eight = k.0; tied = k.1 }

pub returns-then-not-push-clause-after : goal.returns-then-not-push-clause-after
returns-then-not-push-clause-after c =
    let l = c.args.self.now in
    pushes_at l.lanes c.args.i c.index-self-i.result c.push.new.self c.args.x false (omega (arith, l.eight)) c.if-not-push.ensures.after

pub update-requires : goal.update-requires
update-requires c =
    let l = c.args.self.now in
    keeps_room l.lanes (leads_of l.leads) l.eight l.tied c.args.i c.if-i-ge-LANES.false

pub invariant_of-self-then-goes_first : goal.invariant_of-self-then-goes_first
invariant_of-self-then-goes_first c =
    let l = c.args.self.now in
    let b : c.args.i < length l.lanes = omega (arith, l.eight) in
    let entered = pushes_at l.lanes c.args.i c.index-self-i.result c.push.new.self c.args.x true b c.if-not-push.ensures.after in
    let lead = c.lead-lead.ensures ∙ ap head_of (sym (lane_at_lem l.lanes c.args.i c.index-self-i.result b)) in
    let k = keeps_push l.lanes (leads_of l.leads) l.eight l.tied c.args.i c.if-i-ge-LANES.false (set l.lanes c.args.i c.push.new.self) (leads_of c.update.new.self) c.args.x c.lead-lead.result c.lead_of.result entered lead c.if-goes_first.ensures c.lead_of.ensures c.update.ensures in
    record { eight = k.0; tied = k.1 }

pub invariant_of-self-else-goes_first : goal.invariant_of-self-else-goes_first
invariant_of-self-else-goes_first c =
    let l = c.args.self.now in
    let b : c.args.i < length l.lanes = omega (arith, l.eight) in
    let entered = pushes_at l.lanes c.args.i c.index-self-i.result c.push.new.self c.args.x true b c.if-not-push.ensures.after in
    let lead = c.lead-lead.ensures ∙ ap head_of (sym (lane_at_lem l.lanes c.args.i c.index-self-i.result b)) in
    let k = keeps_behind l.lanes (leads_of l.leads) l.eight l.tied c.args.i c.if-i-ge-LANES.false (set l.lanes c.args.i c.push.new.self) c.args.x c.lead-lead.result entered lead c.if-goes_first.ensures in
    record { eight = k.0; tied = k.1 }

pub returns-then-goes_first-clause-after : goal.returns-then-goes_first-clause-after
returns-then-goes_first-clause-after c =
    let l = c.args.self.now in
    pushes_at l.lanes c.args.i c.index-self-i.result c.push.new.self c.args.x true (omega (arith, l.eight)) c.if-not-push.ensures.after

pub returns-else-goes_first-clause-after : goal.returns-else-goes_first-clause-after
returns-else-goes_first-clause-after c =
    let l = c.args.self.now in
    pushes_at l.lanes c.args.i c.index-self-i.result c.push.new.self c.args.x true (omega (arith, l.eight)) c.if-not-push.ensures.after
