-- The leads that are held.
use Rattle.std.specs.Prelude.{◌≡◌, ℕ, ◌+◌, ◌≤◌, List, Some, None, sum_by, Option}
use Rattle.std.specs.Option.{option_to_list}
use Rattle.lanes.specs.Records.{lane_is}
use Rattle.lanes.specs.declared.leads.Leads.{Leads}
use Rattle.lanes.specs.declared.records.Lead.{Lead}

-- the leads that are held, in the order of the heap
abbrev pub leads_of : Leads → List Lead
leads_of l = l.heap

-- the old lead of lane i among the leads held, or None where it has none
abbrev pub OldLead : ℕ → List Lead → Option Lead → Type 0
OldLead i held None = sum_by (lane_is i) held ≡ 0
OldLead i held (Some y) = (y.lane ≡ i) × ((g : Lead → ℕ) → g y ≤ sum_by g held)

-- a lead, or none, came in for the old lead of lane i, if any: every sum changes by their parts
abbrev pub Updates : ℕ → Option Lead → List Lead → List Lead → Type 0
Updates i new held held' = (old : Option Lead) × OldLead i held old × ((g : Lead → ℕ) → sum_by g held' + sum_by g (option_to_list old) ≡ sum_by g held + sum_by g (option_to_list new))
