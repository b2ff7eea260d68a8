use Rattle.std.proofs.Common.{◌/◌, ◌%◌, ◌^◌, sym, ◌∙◌}
use Rattle.std.proofs.lemmas.Bool.{eq-eqb}
use Rattle.books.specs.Views.{state_of}
use Rattle.books.proofs.Ready.{nearest_first, none_ready, ready_leads}
use Rattle.books.proofs.books.Books.nearest_lead.Goals as goal

pub returns-in_err-k : goal.returns-in_err-k
returns-in_err-k c = rw c.from_residual.ensures (λ there. none_ready (state_of c.args.self.now) c.args.lane c.ready.result c.ready.ensures (c.in_err-k.ensures there))

pub returns-in_err-lead : goal.returns-in_err-lead
returns-in_err-lead c =
    let s = state_of c.args.self.now in
    let n = c.in_ok-k.ensures.1 in
    let k = c.in_ok-k.k in
    absurd (ready_leads s k (sym (c.ready.ensures k n.within) ∙ eq-eqb (c.ready.result / 2 ^ k % 2) 1 n.ready_k) c.in_err-lead.ensures)

pub returns : goal.returns
returns c =
    let s = state_of c.args.self.now in
    let n = c.in_ok-k.ensures.1 in
    (c.in_ok-k.ensures.0, n.within, nearest_first s c.args.lane c.ready.result c.in_ok-k.k c.ready.ensures n, sym c.in_ok-lead.ensures)
