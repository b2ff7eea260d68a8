-- The books of the rules as those of the share bound.
use Rattle.std.specs.Prelude.{◌≡◌, ℕ, ◌+◌, ◌<◌, ◌≤◌, List, ◌∷◌, map, length, Some, Ok, Err, Option, Result, MatchResult, slice_index, slice_index_or}
use Rattle.std.specs.List.{ContainsAt as Has, flat_map, AllByRecursion}
use Rattle.charge.specs.Charge.{charge_of}
use Rattle.sheet.specs.Sheets.{Content, no_flow}
use Rattle.heap.proofs.Sorting.{Ordered}
use Rattle.shares.specs.Events as share
use Rattle.shares.specs.Steps as step
use Rattle.lanes.specs.Lanes.{starts}
use Rattle.books.specs.Model.{State, flow_at, lane_at, tagged, arrive_rule}
use Rattle.lanes.specs.Records.{by_start}
use Rattle.books.specs.Sound.{Sound}
use Rattle.books.specs.Views.{state_of}
use Rattle.books.specs.declared.books.Books.{Books}
use Rattle.lanes.specs.declared.records.Request.{Request}
use Rattle.books.specs.declared.refusal.Refusal.{Refusal}
use Rattle.board.specs.Rules.{handed, submits, send_rule, kick_rule, reap_rule, load_rule}
use Rattle.board.specs.declared.answer.Reaping.{Reaping}
use Rattle.board.specs.declared.answer.Reaping.TheVariants.{Finished, NotYet, Idle}
use Rattle.board.specs.declared.answer.Sending.{Sending}
use Rattle.board.specs.declared.answer.Sending.TheVariants.{Empty, Throttled, NoSlot, Sent}
use Rattle.card.specs.declared.Command.{Command}

abbrev pub request_of : Request → share.Request
request_of r = record { ticket = r.ticket; flow = r.flow; sectors = r.sectors; start = r.start; end = r.start + r.charge; charge = r.charge }

abbrev pub shares_of : Content → share.Sheet
shares_of s = record { threshold = s.threshold; slots = s.slots; lanes = length s.lanes; charge = λ f n. charge_of n (slice_index_or s.flows f no_flow).weight; largest = λ f. charge_of (slice_index_or s.flows f no_flow).longest (slice_index_or s.flows f no_flow).weight }

abbrev pub waiting_of : List (List Request) → List share.Request
waiting_of lanes = map request_of (flat_map (λ w. w) lanes)

-- after a load
abbrev pub books_of : State → step.Books
books_of s = record { sheet = Some (shares_of s.sheet); time = s.time; end = λ f. slice_index s.ends f; waiting = waiting_of s.lanes; card = map request_of s.in_card; count = s.arrivals }

-- a sheet within its counts and ranges, and lanes in order
abbrev pub Fair : State → Type 0
Fair s = (length s.sheet.flows ≤ 16) × (length s.sheet.lanes ≤ 8) × ((f : ℕ) → f < length s.sheet.flows → 1 ≤ (flow_at s f).weight) × AllByRecursion (Ordered by_start) s.lanes

-- Virtual time is the least start tag among all that wait: none starts before it, and where anything waits some request starts then.
pub record TimeIs (s : State) : Type 0 where
  pub least : AllByRecursion (λ (q : share.Request). s.time ≤ q.start) (waiting_of s.lanes)
  pub attained : 0 < length (waiting_of s.lanes) → (q : share.Request) × Has (waiting_of s.lanes) q × (q.start ≡ s.time)

-- of every board's books
abbrev pub TimeIsLeast : Type 0
TimeIsLeast = (b : Books) → TimeIs (state_of b)

-- an arrival that is accepted is such a step, and one that is refused changes nothing
abbrev pub ArrivalsStep : Type 0
ArrivalsStep = (s : State) (f l n : ℕ) → Sound s → Fair s → MatchResult (arrive_rule s f l n).0 (λ _. step.Step (books_of s) (share.arrived (request_of (tagged s f n))) (books_of (arrive_rule s f l n).1)) (λ _. (arrive_rule s f l n).1 ≡ s)

-- what an observer sees of an answer
abbrev pub sent_by : Result Sending Refusal → share.Event
sent_by (Ok Empty) = share.nothing
sent_by (Ok (Throttled n)) = share.nothing
sent_by (Ok NoSlot) = share.nothing
sent_by (Ok (Sent t f c)) = share.sent (record { ticket = t; flow = f; charge = c })
sent_by (Err e) = share.nothing

abbrev pub finished_by : Result Reaping Refusal → share.Event
finished_by (Ok (Finished t f c status)) = share.finished (record { ticket = t; flow = f; charge = c })
finished_by (Ok NotYet) = share.nothing
finished_by (Ok Idle) = share.nothing
finished_by (Err e) = share.nothing

abbrev pub SendsStep : Type 0
SendsStep = (depth : ℕ) (held : List Command) (s : State) (l : ℕ) → Sound s → Fair s → step.Step (books_of s) (sent_by (send_rule depth held s l).says) (books_of (send_rule depth held s l).books)

abbrev pub KicksStep : Type 0
KicksStep = (depth : ℕ) (held : List Command) (s : State) (l : ℕ) → Sound s → Fair s → step.Step (books_of s) (sent_by (kick_rule depth held s l).says) (books_of (kick_rule depth held s l).books)

abbrev pub ReapsStep : Type 0
ReapsStep = (s : State) (done : Option (ℕ × ℕ)) → Sound s → step.Step (books_of s) (finished_by (reap_rule s done).0) (books_of (reap_rule s done).1)

-- whatever sheet was in force
abbrev pub LoadsStep : Type 0
LoadsStep = (depth : ℕ) (held : List Command) (s : State) (sheet : Content) (o : Option share.Sheet) →
    MatchResult (load_rule depth held s sheet).0 (λ _. step.Step (record { sheet = o; time = s.time; end = λ f. slice_index s.ends f; waiting = waiting_of s.lanes; card = map request_of s.in_card; count = s.arrivals }) (share.loaded (shares_of sheet)) (books_of (load_rule depth held s sheet).1)) (λ _. (load_rule depth held s sheet).1 ≡ s)

-- every board's books are so
abbrev pub BooksFair : Type 0
BooksFair = (b : Books) → Fair (state_of b)

-- a kick hands a lead to the card whenever a request waits and a slot is free
abbrev pub KicksHand : Type 0
KicksHand = (depth : ℕ) (held : List Command) (s : State) (l : ℕ) → Sound s → l < length s.sheet.lanes → 0 < length (starts s.lanes) → length s.in_card < s.sheet.slots →
    (k : ℕ) × (k < 8) × (r : Request) × (rest : List Request) × (lane_at s k ≡ r ∷ rest) × (kick_rule depth held s l ≡ handed s k r rest (submits depth held r.ticket))
