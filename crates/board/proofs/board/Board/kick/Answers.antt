use Rattle.std.proofs.Common.{Some, sym}
use Rattle.std.proofs.lemmas.Bool.{ltb-true}
use Rattle.books.specs.Views.{state_of}
use Rattle.board.specs.Rules.{Done}
use Rattle.board.proofs.Sends.{kicked}
use Rattle.board.proofs.board.Board.kick.Goals as goal

pub returns : goal.returns
returns g c =
    let b = c.args.self.now in
    let s = state_of b.books in
    let held = g.C.Card.held b.card in
    let there = ltb-true _ _ (sym c.if-not-has_lane.ensures) in
    kicked g.C.Card.DEPTH held s c.args.lane (Some (c.in-Some.near, c.in-Some.lead)) (Done c.hand_lead.result (state_of c.hand_lead.new.self.books) held (g.C.Card.held c.hand_lead.new.self.card))
    there c.in-Some.ensures.0 (ltb-true 0 _ (sym c.if-not-waits.ensures)) c.in-Some.ensures c.hand_lead.ensures.full c.hand_lead.ensures.room
