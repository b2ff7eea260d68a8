-- A text says one thing. Assumes nothing.
use Rattle.std.proofs.Common.{◌≡◌, ℕ, ◌+◌, Bool, true, false, List, [], ◌∷◌, ◌++◌, Some, None, Ok, Err, Option, Result, sym, refl, ap, ◌∙◌, subst}
use Rattle.reader.specs.Format.{read_sheet}
use Rattle.script.specs.Lines.{is_blank, card_of, line_of}
use Rattle.script.specs.Scripts.{Deed, Says, Begins, after, deed_of, fault, next_line, sheet_deed, skipped, with_card}
use Rattle.script.specs.declared.fault.Expected.{Expected}
use Rattle.script.specs.declared.fault.Expected.TheVariants.{Card, SheetLine}
use Rattle.script.specs.declared.fault.ScriptFault.{ScriptFault}
use Rattle.script.specs.declared.line.CardKind.{CardKind}
use Rattle.script.specs.declared.line.Line.{Line}
use Rattle.script.specs.declared.line.Line.TheVariants as line
use Rattle.script.proofs.Texts.{front_taken}

abbrev Outcome : Type 0
Outcome = Result (List Deed) ScriptFault

-- what a text says, by its first line
abbrev BySkip : Result (List ℕ × ℕ) ℕ → List ℕ → Outcome → Type 0
BySkip (Ok p) rest r = (text : List ℕ) × (o : Outcome) × (text ++ p.0 ≡ rest) × Says p.0 p.1 o × (r ≡ after (sheet_deed (read_sheet text) ∷ []) o)
BySkip (Err k') rest r = r ≡ Err (fault k' SheetLine)

abbrev ByLine : Result Line Expected → List ℕ → ℕ → Outcome → Type 0
ByLine (Ok line.Blank) rest k r = Says rest (k + 1) r
ByLine (Ok (line.Sheet n)) rest k r = BySkip (skipped n rest (k + 1)) rest r
ByLine (Ok (line.Call c)) rest k r = (o : Outcome) × Says rest (k + 1) o × (r ≡ after (deed_of c ∷ []) o)
ByLine (Err e) rest k r = r ≡ Err (fault k e)

abbrev ByText : Option (List ℕ × List ℕ) → ℕ → Outcome → Type 0
ByText None k r = r ≡ Ok []
ByText (Some p) k r = ByLine (line_of p.0) p.1 k r

opened : {bytes : List ℕ} {k : ℕ} {r : Outcome} → Says bytes k r → ByText (next_line bytes) k r
opened {bytes} {k} {r} (Says.ends e) = subst (λ (o : Option (List ℕ × List ℕ)). ByText o k r) (sym e) refl
opened {bytes} {k} {r} (Says.passes {rest = rest} e h d) = subst (λ (o : Option (List ℕ × List ℕ)). ByText o k r) (sym e) (subst (λ (x : Result Line Expected). ByLine x rest k r) (sym h) d)
opened {bytes} {k} {r} (Says.calls {rest = rest} {r = o} e h d) = subst (λ (o : Option (List ℕ × List ℕ)). ByText o k r) (sym e) (subst (λ (x : Result Line Expected). ByLine x rest k r) (sym h) (o, d, refl))
opened {bytes} {k} {r} (Says.sheets {rest = rest} text {r = o} e h s t d) =
    subst (λ (o : Option (List ℕ × List ℕ)). ByText o k r) (sym e) (subst (λ (x : Result Line Expected). ByLine x rest k r) (sym h)
    (subst (λ (x : Result (List ℕ × ℕ) ℕ). BySkip x rest r) (sym s) (text, o, t, d, refl)))
opened {bytes} {k} {r} (Says.lacks {rest = rest} e h s) = subst (λ (o : Option (List ℕ × List ℕ)). ByText o k r) (sym e) (subst (λ (x : Result Line Expected). ByLine x rest k r) (sym h) (subst (λ (x : Result (List ℕ × ℕ) ℕ). BySkip x rest r) (sym s) refl))
opened {bytes} {k} {r} (Says.wrong {rest = rest} e h) = subst (λ (o : Option (List ℕ × List ℕ)). ByText o k r) (sym e) (subst (λ (x : Result Line Expected). ByLine x rest k r) (sym h) refl)

-- at a line that is known
at_line : {bytes l rest : List ℕ} {k : ℕ} {q : Outcome} (x : Result Line Expected) → next_line bytes ≡ Some (l, rest) → line_of l ≡ x → Says bytes k q → ByLine x rest k q
at_line {rest = rest} {k = k} {q = q} x e h d = subst (λ (x : Result Line Expected). ByLine x rest k q) h (subst (λ (o : Option (List ℕ × List ℕ)). ByText o k q) e (opened d))

same_text : (a b left rest : List ℕ) → a ++ left ≡ rest → b ++ left ≡ rest → a ≡ b
same_text a b left rest e f = sym (front_taken a left rest e) ∙ front_taken b left rest f

pub says_one : {bytes : List ℕ} {k : ℕ} {r q : Outcome} → Says bytes k r → Says bytes k q → r ≡ q
says_one {k = k} {q = q} (Says.ends e) d = sym (subst (λ (o : Option (List ℕ × List ℕ)). ByText o k q) e (opened d))
says_one (Says.passes e h s) d = says_one s (at_line (Ok line.Blank) e h d)
says_one (Says.calls {c = c} e h s) d =
    let o = at_line (Ok (line.Call c)) e h d in
    ap (after (deed_of c ∷ [])) (says_one s o.1) ∙ sym o.2
says_one {q = q} (Says.sheets {rest = rest} {left = left} text {n = n} {k' = k'} {r = r} e h s t said) d =
    let o = subst (λ (x : Result (List ℕ × ℕ) ℕ). BySkip x rest q) s (at_line (Ok (line.Sheet n)) e h d) in
    let same : text ≡ o.0 = same_text text o.0 left rest t o.2 in
    ap (after (sheet_deed (read_sheet text) ∷ [])) (says_one said o.3) ∙ ap (λ u. after (sheet_deed (read_sheet u) ∷ []) o.1) same ∙ sym o.4
says_one {q = q} (Says.lacks {rest = rest} {n = n} e h s) d = sym (subst (λ (x : Result (List ℕ × ℕ) ℕ). BySkip x rest q) s (at_line (Ok (line.Sheet n)) e h d))
says_one (Says.wrong {e = x} e h) d = sym (at_line (Err x) e h d)

-- the same of the lines before the calls
abbrev Whole : Type 0
Whole = Result (CardKind × List Deed) ScriptFault

abbrev ByCard : Option CardKind → List ℕ → ℕ → Whole → Type 0
ByCard None rest k r = r ≡ Err (fault k Card)
ByCard (Some c) rest k r = (o : Outcome) × Says rest (k + 1) o × (r ≡ with_card c o)

abbrev ByBlank : Bool → List ℕ → List ℕ → ℕ → Whole → Type 0
ByBlank true l rest k r = Begins rest (k + 1) r
ByBlank false l rest k r = ByCard (card_of l) rest k r

abbrev ByStart : Option (List ℕ × List ℕ) → ℕ → Whole → Type 0
ByStart None k r = r ≡ Err (fault k Card)
ByStart (Some p) k r = ByBlank (is_blank p.0) p.0 p.1 k r

begun : {bytes : List ℕ} {k : ℕ} {r : Whole} → Begins bytes k r → ByStart (next_line bytes) k r
begun {k = k} {r = r} (Begins.nothing e) = subst (λ (o : Option (List ℕ × List ℕ)). ByStart o k r) (sym e) refl
begun {k = k} {r = r} (Begins.passes {l = l} {rest = rest} e h d) = subst (λ (o : Option (List ℕ × List ℕ)). ByStart o k r) (sym e) (subst (λ b. ByBlank b l rest k r) (sym h) d)
begun {k = k} {r = r} (Begins.names {l = l} {rest = rest} {r = o} e h c d) = subst (λ (o : Option (List ℕ × List ℕ)). ByStart o k r) (sym e) (subst (λ b. ByBlank b l rest k r) (sym h) (subst (λ (x : Option CardKind). ByCard x rest k r) (sym c) (o, d, refl)))
begun {k = k} {r = r} (Begins.wrong {l = l} {rest = rest} e h c) = subst (λ (o : Option (List ℕ × List ℕ)). ByStart o k r) (sym e) (subst (λ b. ByBlank b l rest k r) (sym h) (subst (λ (x : Option CardKind). ByCard x rest k r) (sym c) refl))

at_start : {bytes l rest : List ℕ} {k : ℕ} {q : Whole} (b : Bool) → next_line bytes ≡ Some (l, rest) → is_blank l ≡ b → Begins bytes k q → ByBlank b l rest k q
at_start {l = l} {rest = rest} {k = k} {q = q} b e h d = subst (λ b. ByBlank b l rest k q) h (subst (λ (o : Option (List ℕ × List ℕ)). ByStart o k q) e (begun d))

pub begins_one : {bytes : List ℕ} {k : ℕ} {r q : Whole} → Begins bytes k r → Begins bytes k q → r ≡ q
begins_one {k = k} {q = q} (Begins.nothing e) d = sym (subst (λ (o : Option (List ℕ × List ℕ)). ByStart o k q) e (begun d))
begins_one (Begins.passes e h s) d = begins_one s (at_start true e h d)
begins_one {k = k} {q = q} (Begins.names {rest = rest} {c = c} e h n s) d =
    let o = subst (λ (x : Option CardKind). ByCard x rest k q) n (at_start false e h d) in
    ap (with_card c) (says_one s o.1) ∙ sym o.2
begins_one {k = k} {q = q} (Begins.wrong {rest = rest} e h n) d = sym (subst (λ (x : Option CardKind). ByCard x rest k q) n (at_start false e h d))
