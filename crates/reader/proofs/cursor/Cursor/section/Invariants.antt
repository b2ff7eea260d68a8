use Rattle.std.proofs.Common.{◌≡◌, ◌-◌}
use Rattle.reader.specs.Format.{lines_into}
use Rattle.reader.specs.Lines.{line_into}
use Rattle.reader.specs.Views.{draft_of, rest_of}
use Rattle.reader.proofs.cursor.Cursor.section.Given as goal

abbrev pub invariant-loop-i : goal.invariant-loop-i
invariant-loop-i l =
    lines_into (line_into l.due) (draft_of l.draft) (l.n - l._i) (rest_of l.self) l.self.line
    ≡ lines_into (line_into l.due) (draft_of l.initial.draft) l.n (rest_of l.initial.self) l.initial.self.line
