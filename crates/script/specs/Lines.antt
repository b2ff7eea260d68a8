-- What one line of a script says.
use Rattle.std.specs.Prelude.{ℕ, Bool, true, cond, List, [], ◌∷◌, Some, None, Ok, Err, codes, Option, Result, ◌==◌}
use Rattle.std.specs.Option.{option_map, ok_or}
use Rattle.std.specs.Str.{bytes_eq}
use Rattle.fly.specs.declared.call.Call.{Call}
use Rattle.fly.specs.declared.call.Call.TheVariants as call
use Rattle.reader.specs.Lines.{cut_at}
use Rattle.script.specs.declared.fault.Expected.{Expected}
use Rattle.script.specs.declared.fault.Expected.TheVariants.{AnyCall, Form}
use Rattle.script.specs.declared.fault.Word.{Word}
use Rattle.script.specs.declared.fault.Word.TheVariants.{Sheet, Arrive, Send, Kick, Reap, Time, Ready, Flow}
use Rattle.script.specs.declared.line.CardKind.{CardKind}
use Rattle.script.specs.declared.line.CardKind.TheVariants.{Queue, Bank}
use Rattle.script.specs.declared.line.Line.{Line}
use Rattle.script.specs.declared.line.Line.TheVariants as line
use Rattle.script.specs.Words.{word_of, number_of}

-- an empty line, or a comment
abbrev pub is_blank : List ℕ → Bool
is_blank [] = true
is_blank (b ∷ bs) = b == 35

-- the card's line
abbrev pub card_of : List ℕ → Option CardKind
card_of l = cond (bytes_eq l (codes "card queue")) (Some Queue) (cond (bytes_eq l (codes "card bank")) (Some Bank) None)

-- `FLOW LANE LENGTH`: three numbers, with a space between each two
abbrev pub three_of : Option ℕ → Option ℕ → Option ℕ → Option Call
three_of (Some f) (Some l) (Some n) = Some (call.Arrive f l n)
three_of (Some f) (Some l) None = None
three_of (Some f) None n = None
three_of None l n = None

abbrev pub arrival_of : List ℕ → Option Call
arrival_of l = elim (cut_at 32 l) [ None ↦ None | Some p ↦ elim (cut_at 32 p.1) [ None ↦ None | Some q ↦ three_of (number_of p.0) (number_of q.0) (number_of q.1) ] ]

-- a word alone
abbrev pub bare_of : Word → Option Line
bare_of Sheet = None
bare_of Arrive = None
bare_of Send = None
bare_of Kick = None
bare_of Reap = Some (line.Call call.Reap)
bare_of Time = Some (line.Call call.Time)
bare_of Ready = Some (line.Call call.Ready)
bare_of Flow = None

-- a word with numbers behind it
abbrev pub numbered_of : Word → List ℕ → Option Line
numbered_of Sheet l = option_map line.Sheet (number_of l)
numbered_of Arrive l = option_map line.Call (arrival_of l)
numbered_of Send l = option_map (λ n. line.Call (call.Send n)) (number_of l)
numbered_of Kick l = option_map (λ n. line.Call (call.Kick n)) (number_of l)
numbered_of Reap l = None
numbered_of Time l = None
numbered_of Ready l = None
numbered_of Flow l = option_map (λ n. line.Call (call.Flow n)) (number_of l)

abbrev pub said_of : Word → Option (List ℕ) → Option Line
said_of w None = bare_of w
said_of w (Some l) = numbered_of w l

-- the word of a line and what stands behind it, after a space
abbrev pub parts_of : List ℕ → List ℕ × Option (List ℕ)
parts_of l = elim (cut_at 32 l) [ None ↦ (l, None) | Some p ↦ (p.0, Some p.1) ]

abbrev pub worded : Option Word → Option (List ℕ) → Result Line Expected
worded None rest = Err AnyCall
worded (Some w) rest = ok_or (said_of w rest) (Form w)

-- what a line after the card's says, or what was expected in its place
abbrev pub line_of : List ℕ → Result Line Expected
line_of l = cond (is_blank l) (Ok line.Blank) (worded (word_of (parts_of l).0) (parts_of l).1)
