-- The lines of a script, one after the other.
use Rattle.std.specs.Prelude.{◌≡◌, ℕ, zero, suc, ◌+◌, ◌<◌, true, false, cond, List, [], ◌∷◌, ◌++◌, map, length, Some, None, Ok, Err, vec_items, Option, Result, MatchResult, ◌==◌}
use Rattle.std.specs.Option.{unwrap_or}
use Rattle.fly.specs.declared.call.Call.{Call}
use Rattle.fly.specs.declared.call.Call.TheVariants.{Load, Arrive, Send, Kick, Reap, Time, Ready, Flow}
use Rattle.reader.specs.Format.{read_sheet}
use Rattle.reader.specs.Lines.{cut_at}
use Rattle.reader.specs.declared.fault.SheetFault.{SheetFault}
use Rattle.sheet.specs.Sheets.{Content, content_of}
use Rattle.script.specs.Lines.{is_blank, card_of, line_of}
use Rattle.script.specs.declared.fault.Expected.{Expected}
use Rattle.script.specs.declared.fault.Expected.TheVariants.{Card, SheetLine}
use Rattle.script.specs.declared.fault.NoScript.{NoScript}
use Rattle.script.specs.declared.fault.NoScript.TheVariants.{Fault, Memory}
use Rattle.script.specs.declared.fault.ScriptFault.{ScriptFault}
use Rattle.script.specs.declared.line.CardKind.{CardKind}
use Rattle.script.specs.declared.line.Line.TheVariants as line
use Rattle.script.specs.declared.script.Script.{Script}
use Rattle.script.specs.declared.script.Step.{Step}
use Rattle.script.specs.declared.script.Step.TheVariants.{Made, Unread}

-- what a script asks for: a sheet to be loaded, or another call, or nothing, where the text of a sheet is refused
pub data Deed : Type 0 where
  loads : Content → Deed
  asks : Call → Deed
  refuses : SheetFault → Deed

-- the deed of a call: of a load, what its sheet says
abbrev pub deed_of : Call → Deed
deed_of (Load s) = loads (content_of s)
deed_of (Arrive f l n) = asks (Arrive f l n)
deed_of (Send l) = asks (Send l)
deed_of (Kick l) = asks (Kick l)
deed_of Reap = asks Reap
deed_of Time = asks Time
deed_of Ready = asks Ready
deed_of (Flow f) = asks (Flow f)

abbrev pub fault : ℕ → Expected → ScriptFault
fault k e = record { line = k; expected = e }

-- the first line, without its line feed, and what follows; the last line may have no line feed
abbrev pub line_at : List ℕ → List ℕ × List ℕ
line_at bytes = unwrap_or (cut_at 10 bytes) (bytes, [])

-- no line begins at the end of the text
abbrev pub next_line : List ℕ → Option (List ℕ × List ℕ)
next_line bytes = cond (length bytes == 0) None (Some (line_at bytes))

-- n lines on from line k: what is left, and the number of its first line; or the number of the line that is missing
abbrev pub skipped : ℕ → List ℕ → ℕ → Result (List ℕ × ℕ) ℕ
skipped zero bytes k = Ok (bytes, k)
skipped (suc n) bytes k = elim (next_line bytes) [ None ↦ Err k | Some p ↦ skipped n p.1 (k + 1) ]

-- what comes of a sheet's text
abbrev pub sheet_deed : Result Content SheetFault → Deed
sheet_deed (Ok s) = loads s
sheet_deed (Err f) = refuses f

-- these in front, unless the rest is at fault
abbrev pub after : {A : Type 0} → List A → Result (List A) ScriptFault → Result (List A) ScriptFault
after ds (Ok es) = Ok (ds ++ es)
after ds (Err f) = Err f

-- From line k on, the text after the card's line says these deeds, or is at fault.
pub data Says : List ℕ → ℕ → Result (List Deed) ScriptFault → Type 0 where
  -- nothing more
  ends : {bytes : List ℕ} {k : ℕ} → next_line bytes ≡ None → Says bytes k (Ok [])
  -- a comment or an empty line
  passes : {bytes l rest : List ℕ} {k : ℕ} {r : Result (List Deed) ScriptFault} → next_line bytes ≡ Some (l, rest) → line_of l ≡ Ok line.Blank → Says rest (k + 1) r → Says bytes k r
  -- a call
  calls : {bytes l rest : List ℕ} {k : ℕ} {c : Call} {r : Result (List Deed) ScriptFault} → next_line bytes ≡ Some (l, rest) → line_of l ≡ Ok (line.Call c) → Says rest (k + 1) r → Says bytes k (after (deed_of c ∷ []) r)
  -- a sheet: its text is the next n lines with their line feeds
  sheets : {bytes l rest left : List ℕ} (text : List ℕ) {k n k' : ℕ} {r : Result (List Deed) ScriptFault} → next_line bytes ≡ Some (l, rest) → line_of l ≡ Ok (line.Sheet n)
      → skipped n rest (k + 1) ≡ Ok (left, k') → text ++ left ≡ rest → Says left k' r → Says bytes k (after (sheet_deed (read_sheet text) ∷ []) r)
  -- a sheet with fewer lines than it says
  lacks : {bytes l rest : List ℕ} {k n k' : ℕ} → next_line bytes ≡ Some (l, rest) → line_of l ≡ Ok (line.Sheet n) → skipped n rest (k + 1) ≡ Err k' → Says bytes k (Err (fault k' SheetLine))
  -- any other line
  wrong : {bytes l rest : List ℕ} {k : ℕ} {e : Expected} → next_line bytes ≡ Some (l, rest) → line_of l ≡ Err e → Says bytes k (Err (fault k e))

-- a card with the deeds after it
abbrev pub with_card : CardKind → Result (List Deed) ScriptFault → Result (CardKind × List Deed) ScriptFault
with_card c (Ok ds) = Ok (c, ds)
with_card c (Err f) = Err f

-- From line k on, the text is a script of that card with these deeds, or is at fault.
pub data Begins : List ℕ → ℕ → Result (CardKind × List Deed) ScriptFault → Type 0 where
  nothing : {bytes : List ℕ} {k : ℕ} → next_line bytes ≡ None → Begins bytes k (Err (fault k Card))
  passes : {bytes l rest : List ℕ} {k : ℕ} {r : Result (CardKind × List Deed) ScriptFault} → next_line bytes ≡ Some (l, rest) → is_blank l ≡ true → Begins rest (k + 1) r → Begins bytes k r
  names : {bytes l rest : List ℕ} {k : ℕ} {c : CardKind} {r : Result (List Deed) ScriptFault} → next_line bytes ≡ Some (l, rest) → is_blank l ≡ false → card_of l ≡ Some c → Says rest (k + 1) r → Begins bytes k (with_card c r)
  wrong : {bytes l rest : List ℕ} {k : ℕ} → next_line bytes ≡ Some (l, rest) → is_blank l ≡ false → card_of l ≡ None → Begins bytes k (Err (fault k Card))

-- The whole text, whose lines count from 1.
abbrev pub IsScript : List ℕ → Result (CardKind × List Deed) ScriptFault → Type 0
IsScript bytes r = Begins bytes 1 r

-- the deeds that are calls
abbrev pub made : List Deed → List Deed
made [] = []
made (loads s ∷ ds) = loads s ∷ made ds
made (asks c ∷ ds) = asks c ∷ made ds
made (refuses f ∷ ds) = made ds

abbrev pub step_of : Deed → Step
step_of (loads s) = Made
step_of (asks c) = Made
step_of (refuses f) = Unread f

-- the second script is the first with these deeds more
pub record Adds (s : Script) (new : List Deed) (s' : Script) : Type 0 where
  pub card : s'.card ≡ s.card
  pub calls : map deed_of (vec_items s'.calls) ≡ map deed_of (vec_items s.calls) ++ made new
  pub steps : vec_items s'.steps ≡ vec_items s.steps ++ map step_of new

-- Of a line that names the card: whatever the rest says, the text says it of that card. Else the text is at fault.
abbrev pub CardSaid : List ℕ → ℕ → Result CardKind ScriptFault → List ℕ → ℕ → Type 0
CardSaid bytes k r bytes' k' = MatchResult r (λ c. (o : Result (List Deed) ScriptFault) → Says bytes' k' o → Begins bytes k (with_card c o)) (λ f. Begins bytes k (Err f))

-- A fault is what the text says; want of memory may be at any time.
abbrev pub Fails : (ScriptFault → Type 0) → NoScript → Type 0
Fails P (Fault f) = P f
Fails P Memory = Unit {0}

-- Something is added to the script, and whatever the rest says, the text says after it. The rest is shorter.
abbrev pub Goes : List ℕ → ℕ → List ℕ → ℕ → Script → Script → Type 0
Goes bytes k bytes' k' s s' = (new : List Deed) × Adds s new s' × ((o : Result (List Deed) ScriptFault) → Says bytes' k' o → Says bytes k (after new o)) × (length bytes' < length bytes)

-- One turn: a line, or a sheet with its lines.
abbrev pub Turn : List ℕ → ℕ → List ℕ → ℕ → Script → Script → Result Unit NoScript → Type 0
Turn bytes k bytes' k' s s' r = MatchResult r (λ _. Goes bytes k bytes' k' s s') (Fails (λ f. Says bytes k (Err f)))

-- A line was taken from any text in front of the rest, and its turn came.
abbrev pub LineAdded : ℕ → List ℕ → List ℕ → ℕ → List ℕ → ℕ → Script → Script → Result Unit NoScript → Type 0
LineAdded k l rest next bytes' k' s s' r = (bytes : List ℕ) → next_line bytes ≡ Some (l, rest) → next ≡ k + 1 → length rest < length bytes → Turn bytes k bytes' k' s s' r

-- how many line feeds there are
abbrev pub feeds_in : List ℕ → ℕ
feeds_in [] = 0
feeds_in (b ∷ bs) = cond (b == 10) (feeds_in bs + 1) (feeds_in bs)

-- The script's calls are those of the deeds, and its steps are the deeds in their order.
pub record Holds (s : Script) (deeds : List Deed) : Type 0 where
  pub calls : map deed_of (vec_items s.calls) ≡ made deeds
  pub steps : vec_items s.steps ≡ map step_of deeds

-- A script is read exactly where the text is one, and it holds what the text says.
abbrev pub Read : List ℕ → Result Script NoScript → Type 0
Read bytes r = MatchResult r (λ s. (deeds : List Deed) × IsScript bytes (Ok (s.card, deeds)) × Holds s deeds) (Fails (λ f. IsScript bytes (Err f)))
