-- What is true of every board's books.
use Rattle.std.specs.Prelude.{◌≡◌, ℕ, ◌+◌, ◌-◌, ◌*◌, ◌≤◌, List, map, length, sum_by, slice_index}
use Rattle.books.specs.Model.{State, waiting, flow_is, most, lane_at, time_of}
use Rattle.books.specs.declared.flows.FlowRecord.{FlowRecord}
use Rattle.lanes.specs.Records.{ticket_is}

-- how often a ticket stands in the books
abbrev pub standing : State → ℕ → ℕ
standing s t = waiting (ticket_is t) s.lanes + sum_by (ticket_is t) s.in_card

-- no tag is above this: 1,720,320 is the largest charge
abbrev pub highest : State → ℕ
highest s = s.arrivals * 1720320

abbrev pub Shaped : State → Type 0
Shaped s = (length s.lanes ≡ 8) × (length s.ends ≡ 16)

abbrev pub Few : State → Type 0
Few s = s.arrivals ≤ most

abbrev pub Timed : State → Type 0
Timed s = s.time ≤ highest s

abbrev pub Tagged : State → Type 0
Tagged s = (f : ℕ) → slice_index s.ends f ≤ highest s

abbrev pub Started : State → Type 0
Started s = waiting (λ r. r.start - highest s) s.lanes ≡ 0

-- tickets are the numbers of the arrivals, and differ
abbrev pub Fresh : State → Type 0
Fresh s = (t : ℕ) → s.arrivals ≤ t → standing s t ≡ 0

abbrev pub Once : State → Type 0
Once s = (t : ℕ) → standing s t ≤ 1

-- lanes are within their capacity, and at most D requests are in the card
abbrev pub Within : State → Type 0
Within s = (l : ℕ) → length (lane_at s l) ≤ slice_index s.sheet.lanes l

abbrev pub Deep : State → Type 0
Deep s = length s.in_card ≤ s.sheet.slots

-- virtual time is the least start tag of the leads, where anything waits
abbrev pub Timely : State → Type 0
Timely s = time_of s s.lanes ≡ s.time

-- each flow's record counts its requests that wait, and those in the card; where there is no record there is no request
abbrev pub CountsWaiting : List FlowRecord → State → Type 0
CountsWaiting fs s = (f : ℕ) → slice_index (map (λ (r : FlowRecord). r.waiting) fs) f ≡ waiting (flow_is f) s.lanes

abbrev pub CountsInCard : List FlowRecord → State → Type 0
CountsInCard fs s = (f : ℕ) → slice_index (map (λ (r : FlowRecord). r.in_card) fs) f ≡ sum_by (flow_is f) s.in_card

-- all of this of the state alone
pub record Sound (s : State) : Type 0 where
  pub shaped : Shaped s
  pub few : Few s
  pub timed : Timed s
  pub tagged : Tagged s
  pub started : Started s
  pub fresh : Fresh s
  pub once : Once s
  pub within : Within s
  pub deep : Deep s
  pub timely : Timely s
