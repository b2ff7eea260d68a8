-- What a board's books mean, and what the calls do to them. A rule gives the answer and the books afterwards.
use Rattle.std.specs.Prelude.{◌≡◌, ℕ, ◌+◌, ◌^◌, max, Bool, false, cond, ◌||◌, List, [], ◌∷◌, length, set, replicate, Some, None, Ok, Err, sum_by, filter, Option, Result, ◌==◌, nat_le, nat_lt, slice_index, slice_index_or, slice_set}
use Rattle.charge.specs.Charge.{charge_of}
use Rattle.sheet.specs.Sheets.{Content, no_flow}
use Rattle.sheet.specs.declared.flow.Flow.{Flow}
use Rattle.near.specs.Lanes.{distance}
use Rattle.heap.specs.Sorting.{insert, sorted}
use Rattle.lanes.specs.Lanes.{starts, least, head_of}
use Rattle.lanes.specs.Records.{by_start, by_ticket}
use Rattle.books.specs.declared.flows.FlowState.{FlowState}
use Rattle.books.specs.declared.refusal.Refusal.{Refusal}
use Rattle.books.specs.declared.refusal.Refusal.TheVariants.{NoFlow, NoLane, BadLength, LaneFull, NoTicket}
use Rattle.lanes.specs.declared.records.Request.{Request}

pub record State : Type 0 where
  pub sheet : Content
  -- virtual time
  pub time : ℕ
  -- each flow's end tag
  pub ends : List ℕ
  -- what waits in each lane, by start tag and then ticket: the lead is the first
  pub lanes : List (List Request)
  -- what is in the card, by ticket
  pub in_card : List Request
  -- how many arrivals were accepted since the load
  pub arrivals : ℕ

-- a sum over all that wait
abbrev pub waiting : (Request → ℕ) → List (List Request) → ℕ
waiting g lanes = sum_by (sum_by g) lanes

-- 1 for a request of the flow f, else 0
abbrev pub flow_is : ℕ → Request → ℕ
flow_is f r = cond (r.flow == f) 1 0

-- one load accepts so many arrivals
abbrev pub most : ℕ
most = 16777216

abbrev pub flow_at : State → ℕ → Flow
flow_at s f = slice_index_or s.sheet.flows f no_flow

abbrev pub lane_at : State → ℕ → List Request
lane_at s l = slice_index_or s.lanes l []

-- virtual time where these wait: the least start tag, or what it was
abbrev pub time_of : State → List (List Request) → ℕ
time_of s lanes = least s.time (starts lanes)

-- the request that an arrival makes
abbrev pub tagged : State → ℕ → ℕ → Request
tagged s f n =
    record { start = max s.time (slice_index s.ends f); ticket = s.arrivals; flow = f; sectors = n; charge = charge_of n (flow_at s f).weight }

abbrev pub entered : State → ℕ → Request → State
entered s l r =
    let lanes = set s.lanes l (insert by_start r (lane_at s l)) in
    record { sheet = s.sheet; time = time_of s lanes; ends = slice_set s.ends r.flow (r.start + r.charge); lanes = lanes; in_card = s.in_card; arrivals = s.arrivals + 1 }

-- the ticket, and the start and end tag
abbrev pub Arrival : Type 0
Arrival = ℕ × (ℕ × ℕ)

abbrev pub arrive_rule : State → ℕ → ℕ → ℕ → Result Arrival Refusal × State
arrive_rule s f l n =
    cond (nat_le (length s.sheet.flows) f) (Err NoFlow, s)
    (cond (nat_le (length s.sheet.lanes) l) (Err NoLane, s)
    (cond (n == 0 || nat_lt (flow_at s f).longest n) (Err BadLength, s)
    (cond (nat_le (slice_index s.sheet.lanes l) (length (lane_at s l))) (Err LaneFull, s)
    (cond (nat_le most s.arrivals) (Err NoTicket, s)
    (let r = tagged s f n in (Ok (r.ticket, (r.start, r.start + r.charge)), entered s l r))))))

-- the lead of a lane
abbrev pub lead_rule : State → ℕ → Result (Option Request) Refusal
lead_rule s l = cond (nat_le (length s.sheet.lanes) l) (Err NoLane) (Ok (head_of (lane_at s l)))

-- the first of what waits in lane l goes into the card
abbrev pub moved_from : State → ℕ → List Request → State
moved_from s l [] = s
moved_from s l (r ∷ rest) =
    let lanes = set s.lanes l rest in
    record { sheet = s.sheet; time = time_of s lanes; ends = s.ends; lanes = lanes; in_card = insert by_ticket r s.in_card; arrivals = s.arrivals }

abbrev pub moved : State → ℕ → State
moved s l = moved_from s l (lane_at s l)

-- the same where a slot is free, and else nothing
abbrev pub move_rule : State → ℕ → State
move_rule s l = cond (nat_lt (length s.in_card) s.sheet.slots) (moved s l) s

-- the request with a ticket, and the others
abbrev pub found : ℕ → List Request → Option Request
found t [] = None
found t (r ∷ rs) = cond (r.ticket == t) (Some r) (found t rs)

abbrev pub without : ℕ → List Request → List Request
without t [] = []
without t (r ∷ rs) = cond (r.ticket == t) (without t rs) (r ∷ without t rs)

-- the request with a ticket leaves the card
abbrev pub finished : State → ℕ → State
finished s t = record { sheet = s.sheet; time = s.time; ends = s.ends; lanes = s.lanes; in_card = without t s.in_card; arrivals = s.arrivals }

-- empty books for a sheet
abbrev pub empty : Content → State
empty sheet = record { sheet = sheet; time = 0; ends = replicate 16 0; lanes = replicate 8 []; in_card = []; arrivals = 0 }

-- a lane with a lead that is not throttled
abbrev pub ready_with : State → List Request → Bool
ready_with s [] = false
ready_with s (r ∷ rest) = nat_le r.start (s.time + s.sheet.threshold)

abbrev pub ready : State → ℕ → Bool
ready s k = ready_with s (lane_at s k)

abbrev pub eight : List ℕ
eight = 0 ∷ 1 ∷ 2 ∷ 3 ∷ 4 ∷ 5 ∷ 6 ∷ 7 ∷ []

-- the ready lanes, the nearest first, and of equally near ones the lowest-numbered first
abbrev pub ready_lanes : State → ℕ → List ℕ
ready_lanes s l = sorted (λ k. distance l k ∷ k ∷ []) (filter (ready s) eight)

-- the ready lanes among these, as a number with bit k for lane k
abbrev pub ready_bits : State → List ℕ → ℕ
ready_bits s [] = 0
ready_bits s (k ∷ ks) = cond (ready s k) (2 ^ k) 0 + ready_bits s ks

-- the ready lanes as eight bits, with their number
abbrev pub ready_rule : State → ℕ × ℕ
ready_rule s = (ready_bits s eight, length (filter (ready s) eight))

-- what a flow has: its share, its end tag, and how many of its requests wait and are in the card
abbrev pub flow_rule : State → ℕ → Result FlowState Refusal
flow_rule s f =
    cond (nat_le (length s.sheet.flows) f) (Err NoFlow)
    (Ok (record { weight = (flow_at s f).weight; longest = (flow_at s f).longest; end = slice_index s.ends f; waiting = waiting (flow_is f) s.lanes; in_card = sum_by (flow_is f) s.in_card }))

-- the answer and the books afterwards are what the rule says
abbrev pub Meets : {A : Type 0} → A → State → A × State → Type 0
Meets a s v = (a ≡ v.0) × (s ≡ v.1)
