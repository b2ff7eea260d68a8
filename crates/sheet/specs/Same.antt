-- When `==` holds of two flows and of two sheets, as a test. That it holds of what says the same, and of that alone, is
-- a clause of each `eq`, and of the law `equality_laws`.
use Rattle.std.specs.Prelude.{Bool, nat_eq}
use Rattle.std.specs.Ordering.{on, eq_of_both}
use Rattle.std.specs.Cmp.Lexicographic.{pointwise}
use Rattle.sheet.specs.declared.flow.Flow.{Flow}
use Rattle.sheet.specs.declared.shape.Sheet.{Sheet}
use Rattle.sheet.specs.Sheets.{content_of}

abbrev pub same_flow : Flow → Flow → Bool
same_flow = eq_of_both (on (λ f. f.weight) nat_eq) (on (λ f. f.longest) nat_eq)

abbrev pub same_sheet : Sheet → Sheet → Bool
same_sheet =
    eq_of_both (eq_of_both (on (λ s. (content_of s).flows) (pointwise same_flow)) (on (λ s. (content_of s).lanes) (pointwise nat_eq)))
    (eq_of_both (on (λ s. s.slots) nat_eq) (on (λ s. s.threshold) nat_eq))
