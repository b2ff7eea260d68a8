-- The worked examples, each computed, and what should come out.
use Rattle.std.specs.Prelude.{ℕ, List, [], ◌∷◌, ◌++◌, map, Ok, Err, codes, Result}
use Rattle.sheet.specs.Sheets.{Content, blank}
use Rattle.reader.specs.Format.{read_sheet, fault}
use Rattle.reader.specs.Grammar.{lines_of}
use Rattle.reader.specs.declared.fault.Refusal.TheVariants.{Form, Order}
use Rattle.reader.specs.declared.fault.SheetFault.{SheetFault}
use Rattle.shares.specs.Law.{sent_limit, finished_limit}
use Rattle.laws.specs.Steps.{shares_of}
use Rattle.worked.specs.Rehearsal.{load, arrive, send, kick, reap, new, answers}

-- two flows, of which the second has twice the weight of the first, and two lanes
abbrev pub sheet_a : Content
sheet_a = record { flows = record { weight = 50; longest = 64 } ∷ record { weight = 100; longest = 64 } ∷ []; lanes = 4 ∷ 4 ∷ []; slots = 2; threshold = 0 }

pub record Outcomes : Type 0 where
  -- what is read from some texts
  pub sheets : List (Result Content SheetFault)
  -- the flight: the number and the values of each answer, with virtual time after it
  pub flight : List ((ℕ × List ℕ) × ℕ)
  -- the sheet with no flows and no lanes
  pub bare : List ((ℕ × List ℕ) × ℕ)
  -- how far apart the two flows of the flight's sheet may lie: what is sent, and what finishes
  pub limits : ℕ × ℕ

abbrev pub texts : List (List ℕ)
texts =
    lines_of codes ("F 2" ∷ "50 64" ∷ "100 64" ∷ "L 2" ∷ "4" ∷ "4" ∷ "P 2" ∷ "D 2" ∷ "T 0" ∷ [])
    ∷ lines_of codes ("F 0" ∷ "L 0" ∷ "P 0" ∷ [])
    ∷ (lines_of codes ("F 0" ∷ "L 0" ∷ []) ++ codes "P 0")
    ∷ lines_of codes ("F 1" ∷ "05 5" ∷ [])
    ∷ lines_of codes ("F 0" ∷ "L 0" ∷ "P 2" ∷ "T 0" ∷ "D 1" ∷ [])
    ∷ []

abbrev pub computed : Outcomes
computed = record {
  sheets = map read_sheet texts;
  flight = answers new (load sheet_a ∷ arrive 0 0 5 ∷ arrive 0 0 5 ∷ arrive 1 1 5 ∷ arrive 1 1 5 ∷ send 0 ∷ send 0 ∷ send 1 ∷ send 1 ∷ reap ∷ kick 0 ∷ []);
  bare = answers new (load blank ∷ arrive 0 0 1 ∷ kick 0 ∷ []);
  limits = (sent_limit (shares_of sheet_a) 0 1, finished_limit (shares_of sheet_a) 0 1);
}

abbrev pub expected : Outcomes
expected = record {
  sheets = Ok sheet_a ∷ Ok blank ∷ Err (fault Form 3) ∷ Err (fault Form 2) ∷ Err (fault Order 5) ∷ [];
  flight =
      -- loaded
      ((0, []), 0)
      -- two arrivals of flow 0, and two of flow 1: ticket, start and end tag
      ∷ ((0, 0 ∷ 0 ∷ 84 ∷ []), 0) ∷ ((0, 1 ∷ 84 ∷ 168 ∷ []), 0) ∷ ((0, 2 ∷ 0 ∷ 42 ∷ []), 0) ∷ ((0, 3 ∷ 42 ∷ 84 ∷ []), 0)
      -- sent: ticket, flow and charge; then throttled, with the excess
      ∷ ((3, 0 ∷ 0 ∷ 84 ∷ []), 0) ∷ ((1, 84 ∷ []), 0)
      -- sent; then no slot
      ∷ ((3, 2 ∷ 1 ∷ 42 ∷ []), 42) ∷ ((2, []), 42)
      -- finished: ticket, flow, charge and status; then the kick sends
      ∷ ((3, 0 ∷ 0 ∷ 84 ∷ 0 ∷ []), 42) ∷ ((3, 3 ∷ 1 ∷ 42 ∷ []), 84) ∷ [];
  -- loaded; then refusals 8 and 9
  bare = ((0, []), 0) ∷ ((8, []), 0) ∷ ((9, []), 0) ∷ [];
  limits = (1614, 4842);
}
