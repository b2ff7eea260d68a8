-- What is said of a text that is no script.
use Rattle.std.specs.Prelude.{ℕ, List, ◌++◌, codes, decimal}
use Rattle.script.specs.declared.fault.Expected.{Expected}
use Rattle.script.specs.declared.fault.Expected.TheVariants.{Card, AnyCall, Form, SheetLine}
use Rattle.script.specs.declared.fault.NoScript.{NoScript}
use Rattle.script.specs.declared.fault.NoScript.TheVariants.{Fault, Memory}
use Rattle.script.specs.declared.fault.ScriptFault.{ScriptFault}
use Rattle.script.specs.declared.fault.Word.{Word}
use Rattle.script.specs.declared.fault.Word.TheVariants.{Sheet, Arrive, Send, Kick, Reap, Time, Ready, Flow}

-- a line that begins with the word
abbrev pub form_text : Word → List ℕ
form_text Sheet = codes "`sheet LINES`, a number below 4294967296"
form_text Arrive = codes "`arrive FLOW LANE LENGTH`, numbers below 4294967296"
form_text Send = codes "`send LANE`, a number below 4294967296"
form_text Kick = codes "`kick LANE`, a number below 4294967296"
form_text Reap = codes "`reap` alone"
form_text Time = codes "`time` alone"
form_text Ready = codes "`ready` alone"
form_text Flow = codes "`flow FLOW`, a number below 4294967296"

abbrev pub expected_text : Expected → List ℕ
expected_text Card = codes "`card queue` or `card bank`"
expected_text AnyCall = codes "`sheet`, `arrive`, `send`, `kick`, `reap`, `time`, `ready` or `flow`"
expected_text (Form w) = form_text w
expected_text SheetLine = codes "a line of the sheet"

-- the line, and what was expected there
abbrev pub fault_text : ScriptFault → List ℕ
fault_text f = codes "line " ++ (decimal f.line ++ (codes ": expected " ++ expected_text f.expected))

-- why there is no script
abbrev pub no_script_text : NoScript → List ℕ
no_script_text (Fault f) = fault_text f
no_script_text Memory = codes "no memory for the script"
