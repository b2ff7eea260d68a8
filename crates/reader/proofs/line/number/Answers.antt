use Rattle.std.proofs.Common.{◌≡◌, ◌≤◌, ◌⊎◌, length, get_or, sym, ◌∙◌, inl, inr, arith, false-eqb}
use Rattle.reader.proofs.Steps.{below_ten, number_is}
use Rattle.reader.proofs.line.number.Goals as goal
use Rattle.reader.proofs.line.number.Goals.{else-s-gt1-via-then-s-gt1+else-s-eq48, else-s-gt1-via-else-s-gt1}

pub returns : goal.returns
returns c =
    let some : 1 ≤ length c.args.s.now = omega (arith, false-eqb _ _ c.if-is_empty.ensures) in
    let bare : (length c.args.s.now ≤ 1) ⊎ (get_or c.args.s.now 0 0 ≡ 48 → ⊥) =
    elim c.else-s-gt1.branch [ else-s-gt1-via-then-s-gt1+else-s-eq48 w ↦ inr w.if-s-eq48.false | else-s-gt1-via-else-s-gt1 w ↦ inl w.if-s-gt1.false ]
    in
    c.value.ensures ∙ below_ten 0 0 c.args.s.now (omega arith) (omega (arith, c.if-s-gt10.false)) ∙ sym (number_is _ some c.if-s-gt10.false bare)
