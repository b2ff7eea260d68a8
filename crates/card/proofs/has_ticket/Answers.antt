use Rattle.std.proofs.Common.{eqb, refl, rules}
use Rattle.std.proofs.lemmas.List.Recursion.{or_is}
use Rattle.card.specs.Commands.{among}
use Rattle.card.proofs.has_ticket.Goals as goal

pub returns : goal.returns
returns c = or_is (among c.args.ticket) (λ d. eqb d.ticket c.args.ticket) refl (λ _ _. refl) c.args.commands.now (record { ticket = 0; sectors = 0 }) _ (search rules) (search rules)
