use Rattle.std.proofs.Common.{◌-◌, get_or, rules, arith}
use Rattle.card.proofs.Bags.{more_end}
use Rattle.cards_for_tests.proofs.Stacked.{popped}
use Rattle.cards_for_tests.proofs.newest.NewestCardCard.finish.Goals as goal

pub returns : goal.returns
returns c =
    let q = c.args.self.now in
    let newest = get_or q.commands (q.len - 1) record { ticket = 0; sectors = 0 } in
    let order = popped record { ticket = 0; sectors = 0 } q.commands q.len c.if-self-eq0.false (omega arith) in
    record { one = (newest.sectors, more_end newest _ _ order); choice = (newest.sectors, order, search rules) }
