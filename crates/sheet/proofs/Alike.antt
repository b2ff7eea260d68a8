-- `==` of flows and of sheets holds of what says the same, and of that alone.
use Rattle.std.proofs.Common.{◌≡◌, Decides, refl, arith}
use Rattle.std.proofs.lemmas.Bool.Decides.{Decides-eqb}
use Rattle.std.proofs.lemmas.Slice.Eq.{slice_eq-Decides}
use Rattle.std.proofs.lemmas.Grind.{common_steps}
use Rattle.sheet.specs.declared.flow.Flow.{Flow}
use Rattle.sheet.specs.declared.shape.Sheet.{Sheet}
use Rattle.sheet.specs.Same.{same_flow, same_sheet}
use Rattle.sheet.specs.Sheets.{content_of}

pub same_flow-Decides : (a b : Flow) → Decides (same_flow a b) (a ≡ b)
same_flow-Decides a b = grind (arith, common_steps)

pub same_sheet-Decides : (a b : Sheet) → Decides (same_sheet a b) (content_of a ≡ content_of b)
same_sheet-Decides a b =
    let f = slice_eq-Decides same_flow-Decides (content_of a).flows (content_of b).flows _ refl in
    let l = slice_eq-Decides Decides-eqb (content_of a).lanes (content_of b).lanes _ refl in
    grind (arith, common_steps)
