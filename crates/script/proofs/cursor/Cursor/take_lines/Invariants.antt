use Rattle.std.proofs.Common.{◌≡◌, ℕ, ◌-◌, List, ◌++◌}
use Rattle.script.specs.Scripts.{skipped}
use Rattle.script.specs.Views.{rest_of}
use Rattle.script.proofs.cursor.Cursor.take_lines.Given as goal

-- the lines so far stand in front of the rest
abbrev pub invariant-loop-i : goal.invariant-loop-i
invariant-loop-i l =
    (skipped (l.count - l._i) (rest_of l.self) l.self.line ≡ skipped l.count (rest_of l.initial.self) l.initial.self.line)
    × ((front : List ℕ) × (front ++ rest_of l.self ≡ rest_of l.initial.self))
