use Rattle.worked.proofs.Limit.{limit_met}
use Rattle.worked.proofs.limit_is_met.Goals as goal

pub returns : goal.returns
returns c = limit_met
