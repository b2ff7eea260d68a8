use Rattle.std.proofs.Common.{refl}
use Rattle.charge.specs.Charge.{rounded_up, charge_of}
use Rattle.charge.proofs.charge_examples.Goals as goal

pub returns : goal.returns
unfolding rounded_up charge_of
returns c = refl
