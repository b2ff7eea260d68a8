-- What waits: for each lane its requests in order, the lead first.
use Rattle.std.specs.Prelude.{◌≡◌, ℕ, suc, ◌≤◌, min, Bool, true, List, [], ◌∷◌, ◌++◌, map, Some, None, sum_by, Option, ◌≢◌, nat_lt, slice_index_or, slice_set}
use Rattle.std.specs.List.{ContainsAt as Has, AllByRecursion}
use Rattle.heap.specs.Sorting.{sorted}
use Rattle.lanes.specs.Records.{by_start}
use Rattle.lanes.specs.declared.lane.Lane.{Lane}
use Rattle.lanes.specs.declared.records.Lead.{Lead}
use Rattle.lanes.specs.declared.records.Request.{Request}

-- what waits in a lane
abbrev pub waits : Lane → List Request
waits l = sorted by_start l.requests

-- what waits in each of some lanes
abbrev pub lanes_in : List Lane → List (List Request)
lanes_in ls = map waits ls

-- the first of lane i goes and is the answer, and every other lane stays as it was; without one nothing changes
abbrev pub PopsAt : ℕ → List (List Request) → Option Request → List (List Request) → Type 0
PopsAt i ls None ls' = (slice_index_or ls i [] ≡ []) × (ls' ≡ ls)
PopsAt i ls (Some x) ls' = (rest : List Request) × (slice_index_or ls i [] ≡ x ∷ rest) × (ls' ≡ slice_set ls i rest)

-- the start tags of the leads
abbrev pub starts : List (List Request) → List ℕ
starts [] = []
starts ([] ∷ ls) = starts ls
starts ((r ∷ rs) ∷ ls) = r.start ∷ starts ls

-- the least of some numbers, or v where there is none
abbrev pub least : ℕ → List ℕ → ℕ
least v [] = v
least v (n ∷ ns) = min n (least n ns)

-- the lead of lane i, if any
abbrev pub lead_at : ℕ → List Request → List Lead
lead_at i [] = []
lead_at i (r ∷ rs) = record { start = r.start; lane = i } ∷ []

-- the leads of lanes that are numbered from i
abbrev pub leads_from : ℕ → List (List Request) → List Lead
leads_from i [] = []
leads_from i (w ∷ ls) = lead_at i w ++ leads_from (suc i) ls

-- some leads are those of the lanes, each as often: every sum over them is the same
abbrev pub Tied : List Lead → List (List Request) → Type 0
Tied held ls = (g : Lead → ℕ) → sum_by g held ≡ sum_by g (leads_from 0 ls)

-- the start tag of a lead, or v where there is none
abbrev pub start_of : Option Lead → ℕ → ℕ
start_of None v = v
start_of (Some l) v = l.start

-- whether a request that starts at s starts before the lead of its lane, or comes alone
abbrev pub goes_first : ℕ → Option Request → Bool
goes_first s None = true
goes_first s (Some r) = nat_lt s r.start

-- the start tags of all that wait
abbrev pub all_starts : List (List Request) → List ℕ
all_starts [] = []
all_starts (w ∷ ls) = map (λ (r : Request). r.start) w ++ all_starts ls

-- m is the least of the numbers ns, or v where there is none
pub record IsLeast (v : ℕ) (ns : List ℕ) (m : ℕ) : Type 0 where
  pub kept : ns ≡ [] → m ≡ v
  pub under : AllByRecursion (λ n. m ≤ n) ns
  pub reached : (ns ≢ []) → Has ns m
