use Rattle.std.proofs.Common.{refl}
use Rattle.charge.specs.Charge.{charge_of, rounded_up}
use Rattle.worked.proofs.worked_examples.Goals as goal

pub returns : goal.returns
unfolding charge_of rounded_up
returns c = refl
