use Rattle.std.proofs.Common.{rules}
use Rattle.charge.specs.Charge.{rounded_up, charge_of}
use Rattle.charge.proofs.charge.Goals as goal

pub returns-clause-value : goal.returns-clause-value
unfolding rounded_up charge_of
returns-clause-value c = search rules
