-- What the values of the program stand for.
use Rattle.std.specs.Prelude.{◌≡◌, ℕ, ◌+◌, List, drop, Some, None, Ok, Err, Result, MatchResult}
use Rattle.std.specs.Borrow.{Bor}
use Rattle.sheet.specs.declared.shape.Sheet.{Sheet}
use Rattle.sheet.specs.Sheets.{content_of}
use Rattle.reader.specs.declared.cursor.Cursor.{Cursor}
use Rattle.reader.specs.declared.draft.Draft.{Draft}
use Rattle.reader.specs.declared.fault.Refusal.{Refusal}
use Rattle.reader.specs.declared.fault.Refusal.TheVariants.{Form}
use Rattle.reader.specs.declared.fault.SheetFault.{SheetFault}
use Rattle.reader.specs.Format.{Read, fault, read_sheet}
use Rattle.reader.specs.Lines.{Progress, cut_at}

abbrev pub draft_of : Draft → Progress
draft_of d = record { sheet = content_of d.sheet; last = d.last }

-- a line was added to the draft as `said` says, or refused
abbrev pub Adds : {A : Type 0} → Result A Refusal → Draft → Result Progress Refusal → Type 0
Adds (Ok v) d said = said ≡ Ok (draft_of d)
Adds (Err why) d said = said ≡ Err why

-- the bytes that a cursor has before it
abbrev pub rest_of : Cursor → List ℕ
rest_of c = drop c.at c.bytes.now

-- a line was taken from the cursor c, which left d
abbrev pub Takes : Result (Bor (List ℕ)) SheetFault → Cursor → Cursor → Type 0
Takes (Ok l) c d = (cut_at 10 (rest_of c) ≡ Some (l.now, rest_of d)) × (d.line ≡ c.line + 1)
Takes (Err f) c d = (cut_at 10 (rest_of c) ≡ None) × (f ≡ fault Form c.line)

-- a read from the cursor gave r and left the cursor c, as `said` says
abbrev pub Gives : {A B : Type 0} → (A → B) → Result A SheetFault → Cursor → Result (Read B) SheetFault → Type 0
Gives view (Ok v) c said = said ≡ Ok (record { got = view v; rest = rest_of c; next = c.line })
Gives view (Err f) c said = said ≡ Err f

-- bytes were read into a place: the sheet that they say is there now, or they are refused and the place is as it was
abbrev pub Reads : {A : Type 0} → List ℕ → Sheet → Sheet → Result A SheetFault → Type 0
Reads bytes before after r = MatchResult r (λ _. read_sheet bytes ≡ Ok (content_of after)) (λ f. (read_sheet bytes ≡ Err f) × (after ≡ before))
