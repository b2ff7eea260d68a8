use Rattle.std.proofs.Common.{◌≡◌, ℕ, ◌<◌, List, [], ◌∷◌, ◌++◌, length, Ok, Err, Result, IsErrAnd, MatchResult, sym, ap, ◌∙◌, subst, rules, arith, length-append}
use Rattle.reader.specs.Format.{read_sheet}
use Rattle.script.specs.Lines.{line_of}
use Rattle.script.specs.Scripts.{Says, deed_of, fault, sheet_deed, skipped}
use Rattle.script.specs.Views.{rest_of}
use Rattle.script.specs.declared.fault.Expected.{Expected}
use Rattle.script.specs.declared.fault.Expected.TheVariants.{SheetLine}
use Rattle.script.specs.declared.fault.ScriptFault.{ScriptFault}
use Rattle.script.specs.declared.line.Line.{Line}
use Rattle.script.proofs.Deeds.{adds_none, after_none}
use Rattle.script.proofs.Turns.{is_placed, placed, placed_err, placed_ok, turn_fault}
use Rattle.script.proofs.script.Script.add_line.Goals as goal

-- a fault is its line with what was expected there
as_fault : (f : ScriptFault) → f.expected ≡ SheetLine → f ≡ fault f.line SheetLine
as_fault f e = λ i. record { line = f.line; expected = e i }

rest_shorter : (text rest whole bytes : List ℕ) → text ++ rest ≡ whole → length whole < length bytes → length rest < length bytes
rest_shorter text rest whole bytes e h = omega (arith, ap length e, length-append text rest)

-- what the line says, or was expected to say
module _ (k : ℕ) (l : List ℕ) (q : Result Line Expected) (r : Result Line ScriptFault) (P : Expected → ScriptFault → Type 0) (all : (e : Expected) (f : ScriptFault) → P e f → f ≡ fault k e) (read : q ≡ line_of l) (m : MatchResult q (λ x. r ≡ Ok x) (λ e. IsErrAnd r (P e))) where
  is : r ≡ placed k (line_of l)
  is = is_placed k P q r all m ∙ ap (placed k) read

  says_line : (x y : Line) → r ≡ Ok x → x ≡ y → line_of l ≡ Ok y
  says_line x y e same = placed_ok k (line_of l) x (sym is ∙ e) ∙ ap (λ z. Ok z) same

  lacks_line : (f : ScriptFault) → r ≡ Err f → (e : Expected) × (line_of l ≡ Err e) × (f ≡ fault k e)
  lacks_line f e = placed_err k (line_of l) f (sym is ∙ e)

pub returns-in_err-said : goal.returns-in_err-said
returns-in_err-said c = λ bytes next one shorter.
    let f = c.in_err-said.field-0.0 in
    let e = lacks_line c.args.number c.args.line.now c.read_line.result c.map_err.result _ (λ e f p. search rules) c.read_line.ensures c.map_err.ensures.cases f c.in_err-said.was in
    turn_fault _ _ _ _ _ _ c.from_residual.result f (subst (λ (g : ScriptFault). Says bytes c.args.number (Err g)) (sym e.2) (Says.wrong next e.1)) c.from_residual.ensures.1

pub returns-in_err-take_lines-in-Sheet : goal.returns-in_err-take_lines-in-Sheet
returns-in_err-take_lines-in-Sheet c = λ bytes next one shorter.
    let f = c.in_err-take_lines-in-Sheet.field-0.0 in
    let lost = c.in_err-take_lines-in-Sheet.ensures.value in
    let said = says_line c.args.number c.args.line.now c.read_line.result c.map_err.result _ (λ e f p. search rules) c.read_line.ensures c.map_err.ensures.cases c.in_ok-said.said _ c.in_ok-said.was c.in-Sheet.is in
    turn_fault _ _ _ _ _ _ c.from_residual-in_err-take_lines-in-Sheet.result f
    (subst (λ (g : ScriptFault). Says bytes c.args.number (Err g)) (sym (as_fault f lost.1))
    (Says.lacks next said (subst (λ k. skipped c.in-Sheet.count (rest_of c.args.cursor.now) k ≡ Err f.line) one lost.0)))
    c.from_residual-in_err-take_lines-in-Sheet.ensures.1

pub returns-in-Blank : goal.returns-in-Blank
returns-in-Blank c = λ bytes next one shorter.
    let said = says_line c.args.number c.args.line.now c.read_line.result c.map_err.result _ (λ e f p. search rules) c.read_line.ensures c.map_err.ensures.cases c.in_ok-said.said _ c.in_ok-said.was c.in-Blank.is in (
      [],
      adds_none _,
      (λ o says. subst (λ p. Says bytes c.args.number p) (sym (after_none o)) (Says.passes next said (subst (λ k. Says (rest_of c.args.cursor.now) k o) one says))),
      shorter,
    )

pub returns-in_ok-add_sheet-in-Sheet : goal.returns-in_ok-add_sheet-in-Sheet
returns-in_ok-add_sheet-in-Sheet c = λ bytes next one shorter.
    let text = c.in_ok-take_lines-in-Sheet.field-0.now in
    let on = c.in_ok-take_lines-in-Sheet.ensures in
    let said = says_line c.args.number c.args.line.now c.read_line.result c.map_err.result _ (λ e f p. search rules) c.read_line.ensures c.map_err.ensures.cases c.in_ok-said.said _ c.in_ok-said.was c.in-Sheet.is in (
      sheet_deed (read_sheet text) ∷ [],
      c.in_ok-add_sheet-in-Sheet.ensures,
      (λ o says. Says.sheets text next said (subst (λ k. skipped c.in-Sheet.count (rest_of c.args.cursor.now) k ≡ Ok (rest_of c.take_lines.new.self, c.take_lines.new.self.line)) one on.value) on.text says),
      rest_shorter text _ _ _ on.text shorter,
    )

pub returns-in_ok-add_call-in-Call : goal.returns-in_ok-add_call-in-Call
returns-in_ok-add_call-in-Call c = λ bytes next one shorter.
    let said = says_line c.args.number c.args.line.now c.read_line.result c.map_err.result _ (λ e f p. search rules) c.read_line.ensures c.map_err.ensures.cases c.in_ok-said.said _ c.in_ok-said.was c.in-Call.is in (
      deed_of c.in-Call.call ∷ [],
      c.in_ok-add_call-in-Call.ensures,
      (λ o says. Says.calls next said (subst (λ k. Says (rest_of c.args.cursor.now) k o) one says)),
      shorter,
    )
