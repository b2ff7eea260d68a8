use Rattle.std.proofs.Common.{List, length, Result}
use Rattle.script.specs.Scripts.{Adds, Deed, Says, after}
use Rattle.script.specs.Views.{rest_of}
use Rattle.script.specs.declared.fault.ScriptFault.{ScriptFault}
use Rattle.script.proofs.reading.read_script.Given as goal

-- the deeds so far are in the script, and whatever the rest says, the whole says after them
abbrev pub invariant-loop-number : goal.invariant-loop-number
invariant-loop-number l =
    (deeds : List Deed) × Adds l.initial.script deeds l.script
    × ((o : Result (List Deed) ScriptFault) → Says (rest_of l.cursor) l.cursor.line o → Says (rest_of l.initial.cursor) l.initial.cursor.line (after deeds o))

abbrev pub decreases-loop-number : goal.decreases-loop-number
decreases-loop-number l = length (rest_of l.cursor)
