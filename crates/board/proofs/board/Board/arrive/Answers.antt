use Rattle.std.proofs.Common.{length, sym, ap, ◌∙◌}
use Rattle.sheet.specs.Sheets.{Content}
use Rattle.books.specs.Model.{State}
use Rattle.books.specs.Views.{state_of}
use Rattle.board.proofs.Sends.{still}
use Rattle.board.proofs.board.Board.arrive.Goals as goal

pub invariant_of-self-clause-matched : goal.invariant_of-self-clause-matched
invariant_of-self-clause-matched g c =
    let b = c.args.self.now in
    let same = still (state_of b.books) c.args.flow c.args.lane c.args.length in
    b.matched ∙ sym (ap length (ap (λ (t : State). t.in_card) c.arrive.ensures.1 ∙ same.0))

pub invariant_of-self-clause-limited : goal.invariant_of-self-clause-limited
invariant_of-self-clause-limited g c =
    let b = c.args.self.now in
    let same = still (state_of b.books) c.args.flow c.args.lane c.args.length in
    b.limited ∙ sym (ap (λ (t : State). t.sheet.slots) c.arrive.ensures.1 ∙ ap (λ (t : Content). t.slots) same.1)
