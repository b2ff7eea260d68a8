use Rattle.bank.proofs.Picks.{laws}
use Rattle.bank.proofs.calls.bank_laws.Goals as goal

pub returns : goal.returns
returns c = laws
