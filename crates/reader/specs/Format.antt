-- A share sheet: what its bytes say, or why and at which line it is refused.
use Rattle.std.specs.Prelude.{ℕ, zero, suc, ◌+◌, cond, List, [], ◌∷◌, length, Some, None, Ok, Err, Result, nat_lt}
use Rattle.sheet.specs.Sheets.{Content, blank}
use Rattle.reader.specs.declared.draft.Section.{Section}
use Rattle.reader.specs.declared.draft.Section.TheVariants.{Flows, Lanes, Params}
use Rattle.reader.specs.declared.fault.Refusal.{Refusal}
use Rattle.reader.specs.declared.fault.Refusal.TheVariants.{TooLong, Form, Extra}
use Rattle.reader.specs.declared.fault.SheetFault.{SheetFault}
use Rattle.reader.specs.Lines.{Progress, cut_at, count_of, line_into}

-- what was read, the bytes that are left, and the number of their first line
pub record Read (A : Type 0) : Type 0 where
  pub got : A
  pub rest : List ℕ
  pub next : ℕ

abbrev pub fault : Refusal → ℕ → SheetFault
fault why k = record { refusal = why; line = k }

abbrev pub and_then : {A B E : Type 0} → Result A E → (A → Result B E) → Result B E
and_then (Ok x) f = f x
and_then (Err e) f = Err e

-- line k, by what its form makes of it: the rest is left, or it is refused at its number
abbrev pub line_ends : {A : Type 0} → Result A Refusal → List ℕ → ℕ → Result (Read A) SheetFault
line_ends (Ok v) rest k = Ok (record { got = v; rest = rest; next = k + 1 })
line_ends (Err why) rest k = Err (fault why k)

-- line k, the first of the bytes, read by the form that is due there
abbrev pub line_as : {A : Type 0} → (List ℕ → Result A Refusal) → List ℕ → ℕ → Result (Read A) SheetFault
line_as form bytes k = elim (cut_at 10 bytes) [ None ↦ Err (fault Form k) | Some p ↦ line_ends (form p.0) p.1 k ]

-- n lines, each added to what those before it say
abbrev pub lines_into : {S : Type 0} → (S → List ℕ → Result S Refusal) → S → ℕ → List ℕ → ℕ → Result (Read S) SheetFault
lines_into form so zero bytes k = Ok (record { got = so; rest = bytes; next = k })
lines_into form so (suc n) bytes k = and_then (line_as (form so) bytes k) (λ x. lines_into form x.got n x.rest x.next)

-- a section: its count, and so many lines
abbrev pub section : Section → Progress → List ℕ → ℕ → Result (Read Progress) SheetFault
section due so bytes k = and_then (line_as (count_of due) bytes k) (λ x. lines_into (line_into due) so x.got x.rest x.next)

-- nothing may come after the last section
abbrev pub ended : {A : Type 0} → A → List ℕ → ℕ → Result A SheetFault
ended x [] k = Ok x
ended x (b ∷ bs) k = Err (fault Extra k)

-- before the first line: no flows, no lanes, D 1 and T 0
abbrev pub start : Progress
start = record { sheet = blank; last = None }

-- the three sections, from line k on
abbrev pub sections : List ℕ → ℕ → Result (Read Progress) SheetFault
sections bytes k = and_then (section Flows start bytes k) (λ f. and_then (section Lanes f.got f.rest f.next) (λ l. section Params l.got l.rest l.next))

-- and then the end
abbrev pub sheet_from : List ℕ → ℕ → Result Content SheetFault
sheet_from bytes k = and_then (sections bytes k) (λ p. ended p.got.sheet p.rest p.next)

abbrev pub read_sheet : List ℕ → Result Content SheetFault
read_sheet bytes = cond (nat_lt 256 (length bytes)) (Err (fault TooLong 0)) (sheet_from bytes 1)
