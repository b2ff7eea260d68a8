use Rattle.std.proofs.Common.{sym, ◌∙◌}
use Rattle.reader.specs.Lines.{line_into}
use Rattle.reader.proofs.Turns.{lines_more}
use Rattle.reader.proofs.cursor.Cursor.section.Goals as goal

pub loop-i-preserved : goal.loop-i-preserved
loop-i-preserved c = sym (lines_more (line_into c.args.due) _ _ _ _ _ c.loop-i-test.true _ c.in_ok-entry.ensures) ∙ c.loop-i.invariant
