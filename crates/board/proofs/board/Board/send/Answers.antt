use Rattle.std.proofs.Common.{arith, Ok, sym, ap, ◌∙◌}
use Rattle.books.specs.Views.{state_of}
use Rattle.board.specs.Rules.{Done}
use Rattle.board.proofs.Sends.{lead_is, sends}
use Rattle.board.proofs.board.Board.send.Goals as goal

pub returns : goal.returns
returns g c =
    let b = c.args.self.now in
    let s = state_of b.books in
    let held = g.C.Card.held b.card in
    let led = lead_is s c.args.lane _ (sym (c.in_ok-lead.was ∙ ap Ok c.in-Some.is) ∙ c.lead.ensures) in
    let P = Done c.hand_lead.result (state_of c.hand_lead.new.self.books) held (g.C.Card.held c.hand_lead.new.self.card) in
    sends g.C.Card.DEPTH held s c.args.lane c.in-Some.lead P led.0 led.1 (omega (arith, c.if-lead-reach.false, c.reach-reach.ensures)) c.hand_lead.ensures.full c.hand_lead.ensures.room
