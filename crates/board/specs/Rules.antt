-- What each call answers and leaves in the books, and which command it hands to the card.
use Rattle.std.specs.Prelude.{◌≡◌, ℕ, ◌+◌, ◌-◌, cond, ◌||◌, List, [], ◌∷◌, length, Some, None, Ok, Err, Option, Result, ◌==◌, nat_le, nat_lt}
use Rattle.card.specs.Commands.{Same, More, command, among, Finished as Ends}
use Rattle.card.specs.declared.Command.{Command}
use Rattle.card.specs.declared.CardFault.{CardFault}
use Rattle.card.specs.declared.CardFault.TheVariants.{Full, HeldAlready}
use Rattle.books.specs.Model.{State, lane_at, moved_from, found, finished, empty, ready_lanes, Meets}
use Rattle.lanes.specs.Lanes.{starts}
use Rattle.sheet.specs.Sheets.{Content}
use Rattle.lanes.specs.declared.records.Request.{Request}
use Rattle.books.specs.declared.refusal.Refusal.{Refusal}
use Rattle.books.specs.declared.refusal.Refusal.TheVariants.{Busy, TooDeep, NoLane, ByCard, Stray}
use Rattle.board.specs.Answers.{outcome_of, reaping_of, sending_of}
use Rattle.board.specs.declared.answer.Reaping.{Reaping}
use Rattle.board.specs.declared.answer.Reaping.TheVariants.{Finished, NotYet, Idle}
use Rattle.board.specs.declared.answer.Sending.{Sending}
use Rattle.board.specs.declared.answer.Sending.TheVariants.{Empty, Throttled, NoSlot, Sent}

-- the answer, the books afterwards, and the command that the card is given
pub record Outcome : Type 0 where
  pub says : Result Sending Refusal
  pub books : State
  pub hands : Option Command

-- nothing changes
abbrev pub stays : State → Result Sending Refusal → Outcome
stays s a = record { says = a; books = s; hands = None }

-- what a card that holds these answers to a submit of the ticket t
abbrev pub submits : ℕ → List Command → ℕ → Result (Unit {0}) CardFault
submits depth held t = cond (nat_le depth (length held)) (Err Full) (cond (among t held) (Err HeldAlready) (Ok tt))

abbrev pub handed : State → ℕ → Request → List Request → Result (Unit {0}) CardFault → Outcome
handed s l r rest (Err fault) = stays s (Err (ByCard fault))
handed s l r rest (Ok _) = record { says = Ok (Sent r.ticket r.flow r.charge); books = moved_from s l (r ∷ rest); hands = Some (command r.ticket r.sectors) }

-- the lead of lane l is handed to the card
abbrev pub hand_first : ℕ → List Command → State → ℕ → List Request → Outcome
hand_first depth held s l [] = stays s (Ok Empty)
hand_first depth held s l (r ∷ rest) = handed s l r rest (submits depth held r.ticket)

-- the lead of lane l is sent, if there is one
abbrev pub send_first : ℕ → List Command → State → ℕ → List Request → Outcome
send_first depth held s l [] = stays s (Ok Empty)
send_first depth held s l (r ∷ rest) =
    let reach = s.time + s.sheet.threshold in
    cond (nat_lt reach r.start) (stays s (Ok (Throttled (r.start - reach))))
    (cond (nat_le s.sheet.slots (length s.in_card)) (stays s (Ok NoSlot))
    (handed s l r rest (submits depth held r.ticket)))

abbrev pub send_rule : ℕ → List Command → State → ℕ → Outcome
send_rule depth held s l = cond (nat_le (length s.sheet.lanes) l) (stays s (Err NoLane)) (send_first depth held s l (lane_at s l))

-- the lead of the first of these lanes is sent
abbrev pub kick_from : ℕ → List Command → State → List ℕ → Outcome
kick_from depth held s [] = stays s (Ok Empty)
kick_from depth held s (k ∷ ks) = hand_first depth held s k (lane_at s k)

abbrev pub kick_rule : ℕ → List Command → State → ℕ → Outcome
kick_rule depth held s l =
    cond (nat_le (length s.sheet.lanes) l) (stays s (Err NoLane))
    (cond (length (starts s.lanes) == 0) (stays s (Ok Empty))
    (cond (nat_le s.sheet.slots (length s.in_card)) (stays s (Ok NoSlot))
    (kick_from depth held s (ready_lanes s l))))

-- the ticket and the status that the card told, and the request with that ticket
abbrev pub reap_found : State → ℕ → ℕ → Option Request → Result Reaping Refusal × State
reap_found s t status None = (Err (Stray t), s)
reap_found s t status (Some r) = (Ok (Finished t r.flow r.charge status), finished s t)

-- what the card finished is given
abbrev pub reap_rule : State → Option (ℕ × ℕ) → Result Reaping Refusal × State
reap_rule s None = (Ok (cond (length s.in_card == 0) Idle NotYet), s)
reap_rule s (Some d) = reap_found s d.0 d.1 (found d.0 s.in_card)

abbrev pub load_rule : ℕ → List Command → State → Content → Result (Unit {0}) Refusal × State
load_rule depth held s sheet =
    cond (nat_lt 0 (length (starts s.lanes)) || (nat_lt 0 (length s.in_card) || nat_lt 0 (length held))) (Err Busy, s)
    (cond (nat_lt depth sheet.slots) (Err TooDeep, s)
    (Ok tt, empty sheet))

-- what the card holds then
abbrev pub Holds : Option Command → List Command → List Command → Type 0
Holds None before after = Same before after
Holds (Some c) before after = More c before after

-- a call's answer and the books afterwards are what its rule says, and so are the answer's number and its values
pub record Answers {A : Type 0} (view : A → ℕ × List ℕ) (r : Result A Refusal) (s' : State) (v : Result A Refusal × State) : Type 0 where
  pub rule : Meets r s' v
  pub numbered : outcome_of view r ≡ outcome_of view v.0

-- a send or a kick did what its rule says
pub record Done (r : Result Sending Refusal) (s' : State) (before after : List Command) (o : Outcome) : Type 0 where
  pub says : r ≡ o.says
  pub numbered : outcome_of sending_of r ≡ outcome_of sending_of o.says
  pub books : s' ≡ o.books
  pub card : Holds o.hands before after

-- a reap did what the rule says of what the card finished, and that is one of the things that the card may do
abbrev pub Reaps : {C : Type 0} → (C → List Command) → (C → Option (ℕ × ℕ) → C → Type 0) → C → C → Result Reaping Refusal → State → State → Type 0
Reaps held finishes card card' r s s' =
    (done : Option (ℕ × ℕ)) × Ends (held card) done (held card') × finishes card done card' × Meets r s' (reap_rule s done) × (outcome_of reaping_of r ≡ outcome_of reaping_of (reap_rule s done).0)
