use Rattle.std.proofs.Common.{◌≡◌, ◌<◌, ◌≤◌, ◌⊎◌, [], ◌++◌, length}
use Rattle.std.specs.Slice.Iter.{iter_rest}
use Rattle.report.specs.Pieces.{text_of}
use Rattle.report.proofs.report.Report.fill.Given as goal

-- nothing is lost; and once something is put out, fewer steps are left
abbrev pub invariant-loop-self : goal.invariant-loop-self
invariant-loop-self l =
    (l.out.items ++ text_of l.self ≡ text_of l.initial.self)
    × (length (iter_rest l.self.steps) ≤ length (iter_rest l.initial.self.steps))
    × ((l.out.items ≡ []) ⊎ (length (iter_rest l.self.steps) < length (iter_rest l.initial.self.steps)))

abbrev pub decreases-loop-self : goal.decreases-loop-self
decreases-loop-self l = length (iter_rest l.self.steps)
