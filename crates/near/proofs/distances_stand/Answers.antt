use Rattle.near.proofs.Tables.{distances}
use Rattle.near.proofs.distances_stand.Goals as goal

pub returns-clause-rule : goal.returns-clause-rule
returns-clause-rule c = distances
