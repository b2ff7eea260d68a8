-- A run that meets the limit on what is sent. Two flows with the same weight and the same charge, 9, have requests waiting, and requests may start 9 ahead of virtual time.
-- First two requests of flow 1 are sent, the second of them ahead of virtual time; then four of flow 0, the last again ahead of it: 36, against 0 for flow 1.
use Rattle.std.specs.Prelude.{◌≡◌, ◌+◌, List, [], ◌∷◌, ◌++◌, sum_by}
use Rattle.sheet.specs.Sheets.{Content}
use Rattle.shares.specs.Events.{Event}
use Rattle.shares.specs.Law.{Stretch, sent_for, sent_limit}
use Rattle.laws.specs.Steps.{shares_of}
use Rattle.worked.specs.Rehearsal.{Call, load, arrive, send, new, events}

abbrev pub sheet : Content
sheet = record { flows = record { weight = 100; longest = 1 } ∷ record { weight = 100; longest = 1 } ∷ []; lanes = 8 ∷ 8 ∷ []; slots = 6; threshold = 9 }

-- five arrivals of flow 0 in lane 0, three of flow 1 in lane 1, and two sends from lane 1
abbrev pub before : List Call
before = load sheet ∷ arrive 0 0 1 ∷ arrive 0 0 1 ∷ arrive 0 0 1 ∷ arrive 0 0 1 ∷ arrive 0 0 1 ∷ arrive 1 1 1 ∷ arrive 1 1 1 ∷ arrive 1 1 1 ∷ send 1 ∷ send 1 ∷ []

abbrev pub stretch : List Call
stretch = send 0 ∷ send 0 ∷ send 0 ∷ send 0 ∷ []

pub record LimitMet : Type 0 where
  -- what an observer learns from the calls before the stretch, and from those of the stretch
  pub pre : List Event
  pub str : List Event
  pub told : events new (before ++ stretch) ≡ pre ++ str
  -- both flows have a request waiting throughout
  pub waits : Stretch (shares_of sheet) pre str 0 1
  -- the charges sent differ by the limit
  pub met : sum_by (sent_for 0) str ≡ sum_by (sent_for 1) str + sent_limit (shares_of sheet) 0 1
