use Rattle.std.proofs.Common.{◌||◌, sym, ap, ◌∙◌}
use Rattle.card.specs.Commands.{among}
use Rattle.card.proofs.Bags.{among-append}
use Rattle.ring.proofs.Circles.{among_none}
use Rattle.ring.proofs.Ring.contains.Goals as goal

pub returns-then-not-seen : goal.returns-then-not-seen
returns-then-not-seen g c =
    let q = c.self.inside in
    let t = c.args.ticket in
    sym (among_none t q.first q.len q.places (sym c.seen.ensures ∙ c.if-not-seen.true)) ∙ ap (among t) c.self.view_is

pub returns-then-has_ticket : goal.returns-then-has_ticket
returns-then-has_ticket g c =
    let t = c.args.ticket in
    let older = c.runs.result.0.now in
    let newer = c.runs.result.1.now in
    c.if-has_ticket.true ∙ sym (ap (λ b. b || among t newer) (sym c.has_ticket.ensures ∙ c.if-has_ticket.true)) ∙ sym (among-append t older newer) ∙ ap (among t) c.runs.ensures

pub returns-else-has_ticket : goal.returns-else-has_ticket
returns-else-has_ticket g c =
    let t = c.args.ticket in
    let older = c.runs.result.0.now in
    let newer = c.runs.result.1.now in
    c.has_ticket-else-has_ticket.ensures ∙ sym (ap (λ b. b || among t newer) (sym c.has_ticket.ensures ∙ c.if-has_ticket.false)) ∙ sym (among-append t older newer) ∙ ap (among t) c.runs.ensures
