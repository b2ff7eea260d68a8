-- What the books mean.
use Rattle.std.specs.Prelude.{ℕ, List, map}
use Rattle.sheet.specs.declared.shape.Sheet.{Sheet}
use Rattle.sheet.specs.Sheets.{content_of}
use Rattle.lanes.specs.Lanes.{lanes_of}
use Rattle.books.specs.Model.{State}
use Rattle.lanes.specs.Table.{in_card_of}
use Rattle.lanes.specs.declared.lanes.Lanes.{Lanes}
use Rattle.books.specs.declared.flows.FlowRecord.{FlowRecord}
use Rattle.lanes.specs.declared.table.InCard.{InCard}

abbrev pub ends_of : List FlowRecord → List ℕ
ends_of fs = map (λ (f : FlowRecord). f.end) fs

abbrev pub state_from : Sheet → ℕ → List FlowRecord → Lanes → InCard → ℕ → State
state_from sheet time flows lanes in_card arrivals =
    record { sheet = content_of sheet; time = time; ends = ends_of flows; lanes = lanes_of lanes; in_card = in_card_of in_card; arrivals = arrivals }
