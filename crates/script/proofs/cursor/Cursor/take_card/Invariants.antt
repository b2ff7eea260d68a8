use Rattle.std.proofs.Common.{List, length, Result}
use Rattle.script.specs.Scripts.{Begins, Deed}
use Rattle.script.specs.Views.{rest_of}
use Rattle.script.specs.declared.fault.ScriptFault.{ScriptFault}
use Rattle.script.specs.declared.line.CardKind.{CardKind}
use Rattle.script.proofs.cursor.Cursor.take_card.Given as goal

-- whatever the text from here on says, the whole says it too
abbrev pub invariant-loop-number : goal.invariant-loop-number
invariant-loop-number l = (o : Result (CardKind × List Deed) ScriptFault) → Begins (rest_of l.self) l.self.line o → Begins (rest_of l.initial.self) l.initial.self.line o

abbrev pub decreases-loop-number : goal.decreases-loop-number
decreases-loop-number l = length (rest_of l.self)
