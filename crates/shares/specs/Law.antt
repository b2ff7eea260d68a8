-- The law of fair shares, told by the events alone.
use Rattle.std.specs.Prelude.{◌≡◌, ℕ, ◌+◌, ◌*◌, ◌<◌, ◌≤◌, cond, List, ◌∷◌, ◌++◌, Some, sum_by, count_by, ◌==◌, nat_eq}
use Rattle.std.specs.List.{ContainsAt as Has, AllByRecursion}
use Rattle.shares.specs.Events.{Sheet, Request, Mark, mark, Event, loaded, arrived, sent, finished, nothing, seen}

-- The charge in a `sent`, and that in a `finished`, for the flow f.
abbrev pub charged : ℕ → Mark → ℕ
charged f m = cond (m.flow == f) m.charge 0

abbrev pub sent_for : ℕ → Event → ℕ
sent_for f (loaded s) = 0
sent_for f (arrived r) = 0
sent_for f (sent m) = charged f m
sent_for f (finished m) = 0
sent_for f nothing = 0

abbrev pub finished_for : ℕ → Event → ℕ
finished_for f (loaded s) = 0
finished_for f (arrived r) = 0
finished_for f (sent m) = 0
finished_for f (finished m) = charged f m
finished_for f nothing = 0

abbrev pub NoLoad : Event → Type 0
NoLoad (loaded s) = ⊥
NoLoad (arrived r) = Unit {0}
NoLoad (sent m) = Unit {0}
NoLoad (finished m) = Unit {0}
NoLoad nothing = Unit {0}

-- The flow f has a request waiting after the events es.
abbrev pub Waits : ℕ → List Event → Type 0
Waits f es = 0 < count_by (λ r. nat_eq r.flow f) (seen es).waiting

-- It has one after the events pre, and after each of the events str that follow.
abbrev pub WaitsThroughout : ℕ → List Event → List Event → Type 0
WaitsThroughout f pre str = (done rest : List Event) → done ++ rest ≡ str → Waits f (pre ++ done)

-- A stretch: the events str after pre, under the sheet s, with no load among them, throughout which the flows f and g have a request waiting.
pub record Stretch (s : Sheet) (pre str : List Event) (f g : ℕ) : Type 0 where
  pub sheet : (seen pre).sheet ≡ Some s
  pub unloaded : AllByRecursion NoLoad str
  pub waits_f : WaitsThroughout f pre str
  pub waits_g : WaitsThroughout g pre str

-- x and y lie at most `far` apart.
abbrev pub Within : ℕ → ℕ → ℕ → Type 0
Within x y far = (x ≤ y + far) × (y ≤ x + far)

-- How far apart the charges sent for two flows may lie, and those finished.
abbrev pub sent_limit : Sheet → ℕ → ℕ → ℕ
sent_limit s f g = 2 * s.threshold + s.largest f + s.largest g

abbrev pub finished_limit : Sheet → ℕ → ℕ → ℕ
finished_limit s f g = 2 * s.threshold + (s.slots + 1) * (s.largest f + s.largest g)

-- m tells of one of the requests rs: its ticket, its flow, and the charge that the sheet gives for its length.
pub record Names (s : Sheet) (rs : List Request) (m : Mark) : Type 0 where
  pub request : Request
  pub there : Has rs request
  pub told : mark request ≡ m
  pub charge : m.charge ≡ s.charge request.flow request.sectors

-- What holds of the events of every run.
pub record Law (es : List Event) : Type 0 where
  -- two flows that wait throughout a stretch share by weight: what is sent for them, and what finishes for them, lies within the limits
  pub sent_alike : (pre str post : List Event) (s : Sheet) (f g : ℕ) → pre ++ (str ++ post) ≡ es → Stretch s pre str f g
      → Within (sum_by (sent_for f) str) (sum_by (sent_for g) str) (sent_limit s f g)
  pub finished_alike : (pre str post : List Event) (s : Sheet) (f g : ℕ) → pre ++ (str ++ post) ≡ es → Stretch s pre str f g
      → Within (sum_by (finished_for f) str) (sum_by (finished_for g) str) (finished_limit s f g)
  -- a ticket is the number of arrivals before it since the last load
  pub tickets : (pre post : List Event) (r : Request) → pre ++ (arrived r ∷ post) ≡ es → r.ticket ≡ (seen pre).count
  -- what is sent was waiting, and what finishes was sent and unfinished, each with its arrival's flow and the charge of the rule
  pub sends : (pre post : List Event) (m : Mark) → pre ++ (sent m ∷ post) ≡ es → (s : Sheet) × ((seen pre).sheet ≡ Some s) × Names s (seen pre).waiting m
  pub finishes : (pre post : List Event) (m : Mark) → pre ++ (finished m ∷ post) ≡ es → (s : Sheet) × ((seen pre).sheet ≡ Some s) × Names s (seen pre).unfinished m
