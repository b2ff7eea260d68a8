use Rattle.std.proofs.Common.{sym, arith, length-take}
use Rattle.std.proofs.lemmas.List.{take_more_set}
use Rattle.card.proofs.Bags.{more_end}
use Rattle.cards_for_tests.proofs.newest.NewestCardCard.submit.Goals as goal

pub returns : goal.returns
returns c =
    let q = c.args.self.now in
    let order = take_more_set q.commands q.len c.args.command (omega arith) in
    record { card = (simp length-take (omega arith), sym c.if-has_ticket.ensures, more_end c.args.command _ _ order); order = order }
