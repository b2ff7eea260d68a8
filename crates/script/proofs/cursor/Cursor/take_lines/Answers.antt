use Rattle.std.proofs.Common.{◌≡◌, ◌+◌, ◌-◌, ◌++◌, Err, sym, ap, ◌∙◌, append_assoc}
use Rattle.script.specs.Scripts.{fault, skipped}
use Rattle.script.specs.Views.{rest_of}
use Rattle.script.specs.declared.fault.Expected.TheVariants.{SheetLine}
use Rattle.script.specs.declared.fault.ScriptFault.{ScriptFault}
use Rattle.script.proofs.Texts.{next_front, front_taken, skip_on, skip_off, skip_end}
use Rattle.script.proofs.Turns.{err_only, taken_none, taken_some}
use Rattle.script.proofs.cursor.Cursor.take_lines.Goals as goal

pub returns-in_err-ok_or : goal.returns-in_err-ok_or
returns-in_err-ok_or c =
    let f = c.in_err-ok_or.field-0.0 in
    let none = taken_none c.fault-missing.result _ _ c.take_line.result f c.take_line.ensures.value (sym c.ok_or.ensures.value ∙ c.in_err-ok_or.was) in
    let is : f ≡ fault c.loop-i.self.line SheetLine = sym none.1 ∙ c.fault-missing.ensures in
    record {
      value = err_only c.from_residual.result f _ (λ g. (skipped c.args.count (rest_of c.args.self.now) c.args.self.now.line ≡ Err g.line) × (g.expected ≡ SheetLine)) c.from_residual.ensures.1
          (sym c.loop-i.invariant.0 ∙ skip_off c.args.count c.loop-i._i (rest_of c.loop-i.self) c.loop-i.self.line c.loop-i-test.true none.0.0 ∙ ap (λ (g : ScriptFault). Err g.line) (sym is), ap (λ (g : ScriptFault). g.expected) is);
      text = err_only c.from_residual.result f _ (λ g. Unit {0}) c.from_residual.ensures.1 tt;
    }

pub loop-i-preserved : goal.loop-i-preserved
loop-i-preserved c =
    let v = taken_some c.fault-missing.result _ _ c.take_line.result c.in_ok-ok_or.field-0 c.take_line.ensures.value (sym c.ok_or.ensures.value ∙ c.in_ok-ok_or.was) in
    let f = next_front (rest_of c.loop-i.self) _ _ v.0 in
    let so = c.loop-i.invariant.1 in (
      ap (λ k. skipped (c.args.count - (c.loop-i._i + 1)) (rest_of c.take_line.new.self) k) v.2
          ∙ sym (skip_on c.args.count c.loop-i._i (rest_of c.loop-i.self) c.loop-i.self.line c.loop-i-test.true _ _ v.0)
          ∙ c.loop-i.invariant.0,
      (so.0 ++ f.0, append_assoc so.0 f.0 (rest_of c.take_line.new.self) ∙ ap (λ r. so.0 ++ r) f.1 ∙ so.1),
    )

pub returns : goal.returns
returns c =
    let so = c.loop-i.invariant.1 in
    let from = rest_of c.args.self.now in
    let rest = rest_of c.loop-i.self in
    record {
      value = sym c.loop-i.invariant.0 ∙ skip_end c.args.count c.loop-i._i rest c.loop-i.self.line c.loop-i-test.false;
      text = ap (λ f. f ++ rest) (front_taken so.0 rest from so.1) ∙ so.1;
    }
