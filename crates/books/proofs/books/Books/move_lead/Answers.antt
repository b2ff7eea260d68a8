use Rattle.std.proofs.Common.{arith}
use Rattle.books.proofs.Changes.{lead_counted, moved_whole, moved_state}
use Rattle.books.proofs.Moves.{stays_whole}
use Rattle.books.proofs.books.Books.move_lead.Goals as goal

pub invariant_of-self : goal.invariant_of-self
invariant_of-self c = stays_whole c.args.self.now c.pop.new.self c.in_default.ensures.1

pub bounds-self-lead : goal.bounds-self-lead
bounds-self-lead c = let out = c.in-Some.ensures in (lead_counted c.args.self.now c.args.lane c.in-Some.lead out.0 out.1).0

pub send_one-requires : goal.send_one-requires
send_one-requires c =
    let out = c.in-Some.ensures in
    let k = lead_counted c.args.self.now c.args.lane c.in-Some.lead out.0 out.1 in
    (k.1, omega (arith, k.2))

pub invariant_of-self-2 : goal.invariant_of-self-2
invariant_of-self-2 c =
    let out = c.in-Some.ensures in
    let b = c.args.self.now in
    moved_whole b c.args.lane c.in-Some.lead out.0 out.1 _ c.least_start-self.result c.pop.new.self c.push.new.self c.push.result c.send_one.ensures out.2 c.least_start-self.ensures
    (omega (arith, c.if-len-slots.false, c.len.ensures.count, c.slots.ensures.0)) c.push.ensures.answer c.push.ensures.after

pub returns : goal.returns
returns c =
    let out = c.in-Some.ensures in
    let b = c.args.self.now in
    moved_state b c.args.lane c.in-Some.lead out.0 out.1 _ c.least_start-self.result c.pop.new.self c.push.new.self c.push.result c.send_one.ensures out.2 c.least_start-self.ensures
    (omega (arith, c.if-len-slots.false, c.len.ensures.count, c.slots.ensures.0)) c.push.ensures.answer c.push.ensures.after
