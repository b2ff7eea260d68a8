use Rattle.std.proofs.Common.{None, sym, ap, ◌∙◌}
use Rattle.reader.specs.declared.draft.Section.TheVariants.{Flows}
use Rattle.reader.specs.Format.{section}
use Rattle.reader.specs.Views.{rest_of}
use Rattle.reader.proofs.Turns.{whole, ended_late}
use Rattle.reader.proofs.cursor.Cursor.sheet.Goals as goal

pub returns-then-self : goal.returns-then-self
returns-then-self c =
    let bytes = rest_of c.args.self.now in
    let first = ap (λ s. section Flows (record { sheet = s; last = None }) bytes c.args.self.now.line) (sym c.new.ensures) ∙ c.in_ok-section.ensures in
    sym (whole bytes c.args.self.now.line _ _ _ first c.in_ok-section-2.ensures c.in_ok-section-3.ensures ∙ ended_late _ _ _ _ c.if-self.true)
