use Rattle.shares.proofs.Fairness.{law, noted}
use Rattle.shares.proofs.shares_stand.Goals as goal

pub returns : goal.returns
returns c new b es n run = (law n es run, noted n es run)
