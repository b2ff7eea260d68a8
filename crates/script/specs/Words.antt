-- The words and the numbers of a script's lines.
use Rattle.std.specs.Prelude.{ℕ, ◌^◌, cond, List, length, Some, None, codes, Option, ◌==◌}
use Rattle.std.specs.Str.{bytes_eq}
use Rattle.reader.specs.Lines.{value_below}
use Rattle.script.specs.declared.fault.Word.{Word}
use Rattle.script.specs.declared.fault.Word.TheVariants.{Sheet, Arrive, Send, Kick, Reap, Time, Ready, Flow}

abbrev pub word_of : List ℕ → Option Word
word_of name =
    cond (bytes_eq name (codes "sheet")) (Some Sheet)
    (cond (bytes_eq name (codes "arrive")) (Some Arrive)
    (cond (bytes_eq name (codes "send")) (Some Send)
    (cond (bytes_eq name (codes "kick")) (Some Kick)
    (cond (bytes_eq name (codes "reap")) (Some Reap)
    (cond (bytes_eq name (codes "time")) (Some Time)
    (cond (bytes_eq name (codes "ready")) (Some Ready)
    (cond (bytes_eq name (codes "flow")) (Some Flow) None)))))))

-- the value of the decimal digits, after those that make n, as long as it stays below 2^32
abbrev pub digits_from : ℕ → List ℕ → Option ℕ
digits_from n ds = value_below (2 ^ 32) n ds

-- a number has at least one digit
abbrev pub number_of : List ℕ → Option ℕ
number_of ds = cond (length ds == 0) None (digits_from 0 ds)
