use Rattle.std.proofs.Common.{◌<◌, length, Ok, Err, sym, ap, ◌∙◌, subst, arith}
use Rattle.std.proofs.lemmas.Result.{err_from_is_err_and}
use Rattle.sheet.specs.Sheets.{Content}
use Rattle.books.specs.Model.{State, lane_at}
use Rattle.books.specs.declared.refusal.Refusal.TheVariants.{ByCard}
use Rattle.books.specs.Views.{state_of}
use Rattle.board.specs.Rules.{Done, hand_first}
use Rattle.board.specs.declared.answer.Sending.TheVariants.{Sent}
use Rattle.slots.proofs.Sends.{one_sent}
use Rattle.board.proofs.Sends.{leads, hands, refuses, one_more, same_sheet, has_moved}
use Rattle.board.proofs.board.Board.hand_lead.Goals as goal

pub returns-in_err-hand_over-clause-full : goal.returns-in_err-hand_over-clause-full
returns-in_err-hand_over-clause-full g c over = let b = c.args.self.now in absurd (omega (arith, over, b.matched, b.limited, c.in-Some.ensures.0, b.settled))

pub returns-in_err-hand_over-clause-room : goal.returns-in_err-hand_over-clause-room
returns-in_err-hand_over-clause-room g c room =
    let s = state_of c.args.self.now.books in
    let held = g.C.Card.held c.args.self.now.card in
    let held' = g.C.Card.held c.hand_over.new.card in
    let k = c.args.lane in
    let r = c.args.lead in
    let lane = leads (lane_at s k) r c.requires in
    let fault = c.in_err-hand_over.field-0.0 in
    let p = err_from_is_err_and c.from_residual.result c.from_residual.ensures.1 in
    subst (λ v. Done v s held held' (hand_first g.C.Card.DEPTH held s k (lane_at s k))) (sym (p.1 ∙ ap Err p.2))
    (subst (λ w. Done (Err (ByCard fault)) s held held' (hand_first g.C.Card.DEPTH held s k w)) (sym lane.1) (refuses g.C.Card.DEPTH held held' s k r lane.0 fault c.in_err-hand_over.ensures.submitted))

pub returns-clause-full : goal.returns-clause-full
returns-clause-full g c over = let b = c.args.self.now in absurd (omega (arith, over, b.matched, b.limited, c.in-Some.ensures.0, b.settled))

pub returns-clause-room : goal.returns-clause-room
returns-clause-room g c room =
    let b = c.args.self.now in
    let s = state_of b.books in
    let s' = state_of c.move_lead.new.self in
    let held = g.C.Card.held b.card in
    let held' = g.C.Card.held c.hand_over.new.card in
    let k = c.args.lane in
    let r = c.args.lead in
    let lane = leads (lane_at s k) r c.requires in
    let answer = Ok (Sent r.ticket r.flow r.charge) in
    subst (λ w. Done answer s' held held' (hand_first g.C.Card.DEPTH held s k w)) (sym lane.1) (hands g.C.Card.DEPTH held held' s s' k r lane.0 c.in_ok-hand_over.ensures.submitted lane.1 (has_moved s s' k room c.move_lead.ensures))

pub invariant_of-self-2 : goal.invariant_of-self-2
invariant_of-self-2 g c =
    let b = c.args.self.now in
    let s = state_of b.books in
    let k = c.args.lane in
    let first = c.requires in
    let room : length s.in_card < s.sheet.slots = omega (arith, b.matched, b.limited, b.settled, c.in-Some.ensures.0) in
    let moved = has_moved s _ k room c.move_lead.ensures in
    let sent = one_sent b.slots _ _ c.in-Some.ensures.1 c.in_ok-hand_over.ensures.slots in record {
      settled = sent.0 ∙ b.settled;
      matched = omega (arith, b.matched, sent.1, ap (λ (t : State). length t.in_card) moved, one_more s k c.args.lead (sym first));
      limited = omega (arith, b.limited, sent.2, ap (λ (t : State). t.sheet.slots) moved, ap (λ (t : Content). t.slots) (same_sheet s k));
    }
