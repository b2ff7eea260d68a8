-- What every element passes, each does; and what every sheet keeps.
use Rattle.std.proofs.Common.{◌≡◌, ℕ, zero, suc, ◌<◌, ◌≤◌, Bool, true, List, [], ◌∷◌, length, get_or, arith}
use Rattle.std.proofs.lemmas.List.{length-take}
use Rattle.std.proofs.lemmas.Bool.{and_parts, leb-true}
use Rattle.charge.specs.Charge.{within}
use Rattle.sheet.specs.declared.flow.Flow.{Flow}
use Rattle.sheet.specs.Ranges.{all_of, flow_fits}
use Rattle.sheet.specs.declared.shape.Sheet.{Sheet}
use Rattle.sheet.specs.Sheets.{Fits, content_of}

pub all_of_at : {A : Type 0} (p : A → Bool) (xs : List A) (i : ℕ) (d : A) → all_of p xs ≡ true → i < length xs → p (get_or xs i d) ≡ true
all_of_at p [] i d h l = absurd (omega (arith, l))
all_of_at p (x ∷ xs) zero d h l = (and_parts (p x) (all_of p xs) h).0
all_of_at p (x ∷ xs) (suc i) d h l = all_of_at p xs i d (and_parts (p x) (all_of p xs) h).1 (omega (arith, l))

pub within_true : (low high n : ℕ) → within low high n ≡ true → (low ≤ n) × (n ≤ high)
within_true low high n h = let p = and_parts _ _ h in (leb-true low n p.0, leb-true n high p.1)

pub flow_fits_lem : (f : Flow) → flow_fits f ≡ true → (1 ≤ f.weight) × (f.weight ≤ 100) × (1 ≤ f.longest) × (f.longest ≤ 2048)
flow_fits_lem f h =
    let p = and_parts (within 1 100 f.weight) (within 1 2048 f.longest) h in
    let w = within_true 1 100 f.weight p.0 in
    let m = within_true 1 2048 f.longest p.1 in
    (w.0, w.1, m.0, m.1)

-- what every sheet keeps
pub sheet_fits : (s : Sheet) → Fits (content_of s)
sheet_fits s = record {
  few_flows = omega (arith, length-take s.flows.len s.flows.elements, s.flows.few);
  flows_fit = s.flows_fit;
  few_lanes = omega (arith, length-take s.lanes.len s.lanes.elements, s.lanes.few);
  lanes_fit = s.lanes_fit;
  some_slots = s.some_slots;
  few_slots = s.few_slots;
  near = s.near;
}
