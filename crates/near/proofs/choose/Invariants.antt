use Rattle.near.specs.Lanes.{Sought}
use Rattle.near.proofs.choose.Given as goal

abbrev pub invariant-loop-rest : goal.invariant-loop-rest
invariant-loop-rest l = Sought l.row l.ready l.rest l.nearest

abbrev pub decreases-loop-rest : goal.decreases-loop-rest
decreases-loop-rest l = l.rest
