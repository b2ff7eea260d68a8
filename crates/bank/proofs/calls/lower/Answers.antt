use Rattle.std.proofs.Common.{set, sym, ap, ◌∙◌}
use Rattle.std.proofs.lemmas.List.Edits.{map_over_more}
use Rattle.bank.specs.Jobs.{lowered}
use Rattle.bank.proofs.calls.lower.Goals as goal

pub loop-bank-preserved : goal.loop-bank-preserved
loop-bank-preserved c =
    let low = c.loop-bank.banks in
    let i = c.loop-bank.bank-index in
    ap (set low i) (c.lower.ensures ∙ ap lowered (sym c.bank-item.is)) ∙ map_over_more lowered c.args.banks.now low i c.bank-item.result c.loop-bank-test.true c.loop-bank.invariant c.bank-item.is
