-- The lines of a script by their forms, and that each text says one thing.
use Rattle.std.specs.Prelude.{◌≡◌, ℕ, ◌^◌, ◌<◌, List, [], ◌∷◌, ◌++◌, Ok, codes, decimal, Result}
use Rattle.std.specs.Str.Parse.{IsNumeral, digits_value}
use Rattle.fly.specs.declared.call.Call.TheVariants as call
use Rattle.script.specs.Lines.{line_of}
use Rattle.script.specs.Scripts.{Deed, IsScript}
use Rattle.script.specs.declared.fault.ScriptFault.{ScriptFault}
use Rattle.script.specs.declared.line.CardKind.{CardKind}
use Rattle.script.specs.declared.line.Line.{Line}
use Rattle.script.specs.declared.line.Line.TheVariants as line

-- decimal digits, one or more, of a number below 2^32
abbrev pub Number : List ℕ → ℕ → Type 0
Number ds n = IsNumeral 10 ds × (digits_value 10 ds ≡ n) × (n < 2 ^ 32)

-- A line after the card's, and what it says.
pub data Form : List ℕ → Line → Type 0 where
  empty : Form [] line.Blank
  comment : {bs : List ℕ} → Form (35 ∷ bs) line.Blank
  sheet : (ds : List ℕ) (n : ℕ) → Number ds n → Form (codes "sheet" ++ 32 ∷ ds) (line.Sheet n)
  arrive : (fs ls ns : List ℕ) (f l n : ℕ) → Number fs f → Number ls l → Number ns n → Form (codes "arrive" ++ 32 ∷ (fs ++ 32 ∷ (ls ++ 32 ∷ ns))) (line.Call (call.Arrive f l n))
  send : (ds : List ℕ) (n : ℕ) → Number ds n → Form (codes "send" ++ 32 ∷ ds) (line.Call (call.Send n))
  kick : (ds : List ℕ) (n : ℕ) → Number ds n → Form (codes "kick" ++ 32 ∷ ds) (line.Call (call.Kick n))
  reap : Form (codes "reap") (line.Call call.Reap)
  time : Form (codes "time") (line.Call call.Time)
  ready : Form (codes "ready") (line.Call call.Ready)
  flow : (ds : List ℕ) (n : ℕ) → Number ds n → Form (codes "flow" ++ 32 ∷ ds) (line.Call (call.Flow n))

pub record ScriptLaws : Type 0 where
  -- a line is read exactly where it is of a form, and says what the form says
  pub forms : (bytes : List ℕ) (l : Line) → line_of bytes ≡ Ok l → Form bytes l
  pub lines : (bytes : List ℕ) (l : Line) → Form bytes l → line_of bytes ≡ Ok l
  -- what is written of a number in decimal is a number
  pub numbers : (n : ℕ) → n < 2 ^ 32 → Number (decimal n) n
  -- a text says one thing: one card with one list of deeds, or one fault
  pub one : (bytes : List ℕ) (r q : Result (CardKind × List Deed) ScriptFault) → IsScript bytes r → IsScript bytes q → r ≡ q
