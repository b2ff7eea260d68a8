use Rattle.std.proofs.Common.{◌+◌, [], ◌++◌, Ok, sym, ap, ◌∙◌, subst}
use Rattle.script.specs.Scripts.{Says, after}
use Rattle.script.specs.Views.{rest_of}
use Rattle.script.proofs.Deeds.{adds_more, after_more}
use Rattle.script.proofs.Turns.{ended, holds_from}
use Rattle.script.proofs.reading.read_script.Goals as goal

pub loop-number-preserved : goal.loop-number-preserved
loop-number-preserved c =
    let so = c.loop-number.invariant in
    let v = c.in-Some.ensures.value in
    let new = c.in_ok-add_line.ensures (rest_of c.loop-number.cursor) v.0 (v.2 ∙ ap (λ k. k + 1) (sym v.1)) c.in-Some.ensures.less in (
      so.0 ++ new.0,
      adds_more so.0 new.0 so.1 new.1,
      (λ o says.
          subst (λ p. Says (rest_of c.take_card.new.self) c.take_card.new.self.line p) (after_more so.0 new.0 o)
          (so.2 _ (subst (λ k. Says (rest_of c.loop-number.cursor) k (after new.0 o)) v.1 (new.2 o says)))),
    )

pub returns : goal.returns
returns c =
    let so = c.loop-number.invariant in
    let whole = c.in_ok-card.ensures (after so.0 (Ok [])) (so.2 (Ok []) (Says.ends c.in_default.ensures.value.0)) in (
      so.0,
      ended c.args.text.now _ _ c.in_ok-card.card c.loop-number.script.card so.0 c.new-cursor.ensures.0 c.new-cursor.ensures.1 so.1.card whole,
      holds_from _ c.loop-number.script so.0 c.in_ok-with_capacity.ensures.items c.in_ok-with_capacity-2.ensures.items so.1,
    )
