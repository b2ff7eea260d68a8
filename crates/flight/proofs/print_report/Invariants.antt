use Rattle.std.proofs.Common.{length}
use Rattle.std.specs.Slice.Iter.{iter_rest}
use Rattle.flight.proofs.print_report.Given as goal

-- the steps that are left
abbrev pub decreases-loop-piece : goal.decreases-loop-piece
decreases-loop-piece l = length (iter_rest l.report.steps)
