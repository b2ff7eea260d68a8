-- What a share sheet says: the flows with their shares, the lanes with their room, D and T.
use Rattle.std.specs.Prelude.{◌≡◌, ℕ, ◌<◌, ◌≤◌, true, cond, ◌&&◌, List, [], ◌∷◌, ◌++◌, length, Some, None, Option, Result, MatchResult, nat_le, nat_lt, slice_index, slice_index_or}
use Rattle.charge.specs.Charge.{within, charge_of}
use Rattle.sheet.specs.declared.flow.Flow.{Flow}
use Rattle.sheet.specs.declared.shape.Sheet.{Sheet}
use Rattle.sheet.specs.Listed.{items_of}
use Rattle.sheet.specs.Ranges.{flow_fits, lane_fits, all_of}

pub record Content : Type 0 where
  -- the flows, numbered from 0
  pub flows : List Flow
  -- how many requests may wait in each lane; lanes are numbered from 0
  pub lanes : List ℕ
  -- D: how many requests may be in the card
  pub slots : ℕ
  -- T: how far ahead of virtual time a request that is sent may start
  pub threshold : ℕ

-- what a sheet says
abbrev pub content_of : Sheet → Content
content_of s = record { flows = items_of s.flows; lanes = items_of s.lanes; slots = s.slots; threshold = s.threshold }

-- no flows, no lanes, D 1 and T 0
abbrev pub blank : Content
blank = record { flows = []; lanes = []; slots = 1; threshold = 0 }

-- what stands for a flow where there is none
abbrev pub no_flow : Flow
no_flow = record { weight = 0; longest = 0 }

-- the counts and ranges that every sheet keeps
pub record Fits (s : Content) : Type 0 where
  pub few_flows : length s.flows ≤ 16
  pub flows_fit : all_of flow_fits s.flows ≡ true
  pub few_lanes : length s.lanes ≤ 8
  pub lanes_fit : all_of lane_fits s.lanes ≡ true
  pub some_slots : 1 ≤ s.slots
  pub few_slots : s.slots ≤ 32
  pub near : s.threshold ≤ 1000000000

-- f is flow i of the sheet
pub record FlowIn (s : Content) (i : ℕ) (f : Flow) : Type 0 where
  pub below : i < length s.flows
  pub few : i < 16
  pub is : f ≡ slice_index_or s.flows i no_flow
  pub some : 1 ≤ f.weight
  pub light : f.weight ≤ 100
  pub long : 1 ≤ f.longest
  pub most : f.longest ≤ 2048

-- k requests may wait in lane i of the sheet
pub record LaneIn (s : Content) (i : ℕ) (k : ℕ) : Type 0 where
  pub below : i < length s.lanes
  pub few : i < 8
  pub is : k ≡ slice_index s.lanes i
  pub some : 1 ≤ k
  pub most : k ≤ 32

-- the sheet with one flow more, where there is room and its numbers are in range
abbrev pub with_flow : Content → ℕ → ℕ → Option Content
with_flow s w m =
    cond (nat_lt (length s.flows) 16 && (within 1 100 w && within 1 2048 m))
    (Some (record { flows = s.flows ++ record { weight = w; longest = m } ∷ []; lanes = s.lanes; slots = s.slots; threshold = s.threshold })) None

-- the sheet with one lane more, where there is room and its number is in range
abbrev pub with_lane : Content → ℕ → Option Content
with_lane s k =
    cond (nat_lt (length s.lanes) 8 && within 1 32 k)
    (Some (record { flows = s.flows; lanes = s.lanes ++ k ∷ []; slots = s.slots; threshold = s.threshold })) None

-- the sheet with another D
abbrev pub with_slots : Content → ℕ → Option Content
with_slots s d = cond (within 1 32 d) (Some (record { flows = s.flows; lanes = s.lanes; slots = d; threshold = s.threshold })) None

-- the sheet with another T
abbrev pub with_threshold : Content → ℕ → Option Content
with_threshold s t = cond (nat_le t 1000000000) (Some (record { flows = s.flows; lanes = s.lanes; slots = s.slots; threshold = t })) None

-- a change of a sheet: made as said, or refused, and then the sheet says what it said before
abbrev pub Becomes : {A E : Type 0} → Result A E → Option Content → Content → Content → Type 0
Becomes r said before after = MatchResult r (λ _. said ≡ Some after) (λ _. (said ≡ None) × (after ≡ before))

-- what a flow pays for a request of so many sectors: nothing is sent that is empty or longer than the flow's longest
abbrev pub flow_charge : Flow → ℕ → Option ℕ
flow_charge f sectors = cond (within 1 f.longest sectors) (Some (charge_of sectors f.weight)) None
