use Rattle.laws.proofs.Times.{time_is_least_lem}
use Rattle.laws.proofs.time_is_least.Goals as goal

pub returns : goal.returns
returns c = time_is_least_lem
