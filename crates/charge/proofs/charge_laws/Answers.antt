use Rattle.charge.proofs.Charges.{laws}
use Rattle.charge.proofs.charge_laws.Goals as goal

pub returns : goal.returns
returns c = laws
