use Rattle.std.proofs.Common.{◌∙◌, rules}
use Rattle.std.proofs.lemmas.Iterator.{YieldsList-from_slice}
use Rattle.std.proofs.lemmas.Iterator.Adapters.{position_from-zero}
use Rattle.std.proofs.lemmas.Iterator.Search.{position_from_yields_List}
use Rattle.bank.specs.Jobs.{ready}
use Rattle.bank.proofs.Picks.{positioned}
use Rattle.bank.proofs.calls.ready_bank.Goals as goal

pub returns-clause-first : goal.returns-clause-first
returns-clause-first c =
    let banks = c.args.banks.now in
    position_from_yields_List ready _ _ c.position.result c.position.ensures.ran (YieldsList-from_slice banks cc) (λ x b q k. search rules) ∙ position_from-zero ready banks ∙ positioned 0 banks
