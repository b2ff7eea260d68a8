use Rattle.std.proofs.Common.{Err, sym, ap, ◌∙◌, subst, rules}
use Rattle.std.specs.Option.{ok_or}
use Rattle.script.specs.Lines.{card_of}
use Rattle.script.specs.Scripts.{Begins, fault, nothing}
use Rattle.script.specs.Views.{rest_of}
use Rattle.script.specs.declared.fault.Expected.TheVariants.{Card}
use Rattle.script.proofs.Turns.{card_placed, card_said, is_placed, placed}
use Rattle.script.proofs.cursor.Cursor.take_card.Goals as goal

pub returns-then-not-is_blank : goal.returns-then-not-is_blank
returns-then-not-is_blank c =
    let v = c.in-Some.ensures.value in
    let l = c.in-Some.line.now in
    card_said (rest_of c.args.self.now) c.args.self.now.line (rest_of c.loop-number.self) l (rest_of c.take_line.new.self) c.loop-number.self.line c.take_line.new.self.line
    c.loop-number.invariant v.0 v.2 (sym c.is_blank.ensures ∙ c.if-not-is_blank.true)
    c.map_err.result
    (is_placed c.in-Some.number _ _ _ (λ e f p. search rules) c.map_err.ensures.cases
    ∙ ap (placed c.in-Some.number) c.try_from.ensures
    ∙ card_placed c.in-Some.number (card_of l)
    ∙ ap (λ k. ok_or (card_of l) (fault k Card)) v.1)

pub loop-number-preserved : goal.loop-number-preserved
loop-number-preserved c =
    let v = c.in-Some.ensures.value in
    λ o says. c.loop-number.invariant o (Begins.passes v.0 (sym c.is_blank.ensures ∙ c.if-not-is_blank.false) (subst (λ k. Begins (rest_of c.take_line.new.self) k o) v.2 says))

pub returns : goal.returns
returns c =
    let v = c.in_default.ensures.value in
    subst (λ f. Begins (rest_of c.args.self.now) c.args.self.now.line (Err f)) (sym (c.fault.ensures ∙ ap (λ k. fault k Card) v.2)) (c.loop-number.invariant _ (nothing v.0))
