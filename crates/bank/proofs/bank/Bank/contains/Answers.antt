use Rattle.std.proofs.Common.{sym, ap, ◌∙◌}
use Rattle.card.specs.Commands.{among}
use Rattle.bank.specs.Jobs.{commands_in}
use Rattle.bank.proofs.Jobbed.{commands_jobs}
use Rattle.bank.proofs.bank.Bank.contains.Goals as goal

pub returns : goal.returns
returns c =
    let b = c.self.inside in
    let t = c.args.ticket in
    c.contains.ensures ∙ ap (among t) (sym (commands_jobs b.left b.commands)) ∙ ap (λ jobs. among t (commands_in jobs)) c.self.view_is
