use Rattle.script.proofs.Forms.{line_says, line_reads}
use Rattle.script.proofs.Numbers.{written}
use Rattle.script.proofs.Unique.{begins_one}
use Rattle.script.proofs.law.script_laws.Goals as goal

pub returns : goal.returns
returns c = record { forms = line_says; lines = line_reads; numbers = written; one = λ bytes r q a b. begins_one a b }
