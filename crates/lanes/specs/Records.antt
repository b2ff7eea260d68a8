-- The numbers of the records, in the order in which they are compared.
use Rattle.std.specs.Prelude.{ℕ, Bool, cond, List, [], ◌∷◌, ◌==◌}
use Rattle.heap.specs.Sorting.{upto}
use Rattle.lanes.specs.declared.records.Lead.{Lead}
use Rattle.lanes.specs.declared.records.Request.{Request}

-- a request's numbers, start tag and ticket first; what comes after the ticket never decides where tickets differ
abbrev pub by_start : Request → List ℕ
by_start r = r.start ∷ r.ticket ∷ r.flow ∷ r.sectors ∷ r.charge ∷ []

-- the same, the ticket first
abbrev pub by_ticket : Request → List ℕ
by_ticket r = r.ticket ∷ r.start ∷ r.flow ∷ r.sectors ∷ r.charge ∷ []

-- a lead's numbers, start tag first
abbrev pub by_lead : Lead → List ℕ
by_lead x = x.start ∷ x.lane ∷ []

-- whether the request x is at or before y
abbrev pub request_upto : Request → Request → Bool
request_upto x y = upto (by_start x) (by_start y)

-- whether the lead x is at or before y
abbrev pub lead_upto : Lead → Lead → Bool
lead_upto x y = upto (by_lead x) (by_lead y)

-- 1 for a request with the ticket t, else 0
abbrev pub ticket_is : ℕ → Request → ℕ
ticket_is t r = cond (r.ticket == t) 1 0

-- 1 for a lead of lane i, else 0
abbrev pub lane_is : ℕ → Lead → ℕ
lane_is i x = cond (x.lane == i) 1 0

-- what stands in memory that is not in use
abbrev pub no_request : Request
no_request = record { start = 0; ticket = 0; flow = 0; sectors = 0; charge = 0 }

abbrev pub no_lead : Lead
no_lead = record { start = 0; lane = 0 }
