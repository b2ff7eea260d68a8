-- A report, piece by piece.
use Rattle.std.specs.Prelude.{◌≡◌, ℕ, ◌<◌, Bool, List, [], ◌++◌, length, MatchBool, MatchOption, Option, Result}
use Rattle.std.specs.Slice.Iter.{iter_rest}
use Rattle.fly.specs.declared.call.Answer.{Answer}
use Rattle.reader.specs.declared.fault.SheetFault.{SheetFault}
use Rattle.report.specs.Answers.{report, step_line}
use Rattle.report.specs.declared.answer.Line.{Line}
use Rattle.report.specs.declared.report.Report.{Report}

-- all that is still to be printed
abbrev pub text_of : Report → List ℕ
text_of r = report (iter_rest r.steps) (iter_rest r.answers)

-- A line is given and the report is what follows it; or there is none.
abbrev pub Told : Report → Option (Line (Result Answer SheetFault)) → Report → Type 0
Told r line r' = MatchOption line (text_of r ≡ []) (λ l. (step_line l.0 ++ text_of r' ≡ text_of r) × (length (iter_rest r'.steps) < length (iter_rest r.steps)))

-- A piece is put out, and what is left follows it; or the piece is all that was left.
abbrev pub Filled : Bool → Report → Report → List ℕ → Type 0
Filled more r r' out = MatchBool more ((out ++ text_of r' ≡ text_of r) × (length (iter_rest r'.steps) < length (iter_rest r.steps))) (out ≡ text_of r)
