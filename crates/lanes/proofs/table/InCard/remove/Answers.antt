use Rattle.std.proofs.Common.{◌<◌, ◌-◌, take, eqb, sym, refl, ap, ◌∙◌, subst, arith}
use Rattle.std.proofs.lemmas.Bool.{eqb-true}
use Rattle.std.proofs.lemmas.List.{get_or-take, length-take}
use Rattle.std.proofs.lemmas.List.Quantifiers.{position-Some}
use Rattle.heap.proofs.Sorting.{sum_by-sorted}
use Rattle.lanes.specs.Records.{by_ticket, no_request, ticket_is}
use Rattle.lanes.specs.Table.{in_card_of, Removes}
use Rattle.lanes.specs.declared.records.Request.{Request}
use Rattle.lanes.proofs.Removed.{absent, removes}
use Rattle.lanes.proofs.table.InCard.remove.Goals as goal

pub returns-in_err-i : goal.returns-in_err-i
returns-in_err-i c =
    let held = take c.args.self.now.count c.args.self.now.slots in
    let gone = absent (λ (r : Request). eqb r.ticket c.args.ticket) held (sym c.place.ensures ∙ c.in_err-i.was) in
    subst (λ r. Removes c.args.ticket (in_card_of c.args.self.now) r (in_card_of c.args.self.now)) (sym c.from_residual.ensures) (refl, sum_by-sorted by_ticket (ticket_is c.args.ticket) held ∙ gone)

pub returns : goal.returns
returns c =
    let t = c.args.self.now in
    let i = c.in_ok-i.i in
    let found = position-Some (λ (r : Request). eqb r.ticket c.args.ticket) (take t.count t.slots) i no_request (sym c.place.ensures ∙ c.in_ok-i.was) in
    let inside : i < t.count = omega (arith, found.0, length-take t.count t.slots) in
    removes t.slots t.count (t.count - 1) i c.args.ticket no_request (omega arith) (omega (arith, t.sized, t.within)) inside (ap (λ (r : Request). r.ticket) (sym (get_or-take t.count t.slots i no_request inside)) ∙ eqb-true _ c.args.ticket found.1)
