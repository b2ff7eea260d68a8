-- One call after the other on a board: what each answers and leaves, by its rule, and what an observer learns from it.
use Rattle.std.specs.Prelude.{◌≡◌, ℕ, ◌-◌, List, [], ◌∷◌, ◌++◌, Ok, Err, Option}
use Rattle.sheet.specs.Sheets.{content_of, blank}
use Rattle.card.specs.Commands.{Finished as Ends}
use Rattle.card.specs.declared.Card.{Ghosts}
use Rattle.card.specs.declared.Command.{Command}
use Rattle.shares.specs.Events.{Event, loaded, arrived, sent, finished, nothing}
use Rattle.books.specs.Model.{State, arrive_rule, empty, flow_rule, ready_rule}
use Rattle.books.specs.Views.{state_of}
use Rattle.board.specs.Rules.{Outcome, Holds, send_rule, kick_rule, reap_rule, load_rule}
use Rattle.board.specs.declared.answer.Reaping.TheVariants.{Finished, NotYet, Idle}
use Rattle.board.specs.declared.answer.Sending.TheVariants.{Empty, Throttled, NoSlot, Sent}
use Rattle.board.specs.declared.board.Board.{Board}
use Rattle.laws.specs.Steps.{shares_of}
use Rattle.fly.specs.declared.call.Answer.{Answer}
use Rattle.fly.specs.declared.call.Answer.TheVariants.{Loaded, Arrived, Moved, Reaped, VirtualTime, ReadyLanes, OfFlow}
use Rattle.fly.specs.declared.call.Call.{Call}
use Rattle.fly.specs.declared.call.Call.TheVariants.{Load, Arrive, Send, Kick, Reap, Time, Ready, Flow}

-- a call with its answer
abbrev pub Entry : Type 0
Entry = Call × Answer

-- What an observer learns from a call and its answer: of an accepted load the sheet, of an accepted arrival the request.
abbrev pub on_load : Call → Event
on_load (Load sheet) = loaded (shares_of (content_of sheet))
on_load (Arrive f l n) = nothing
on_load (Send l) = nothing
on_load (Kick l) = nothing
on_load Reap = nothing
on_load Time = nothing
on_load Ready = nothing
on_load (Flow f) = nothing

abbrev pub on_arrival : Call → ℕ × (ℕ × ℕ) → Event
on_arrival (Load sheet) a = nothing
on_arrival (Arrive f l n) a = arrived (record { ticket = a.0; flow = f; sectors = n; start = a.1.0; end = a.1.1; charge = a.1.1 - a.1.0 })
on_arrival (Send l) a = nothing
on_arrival (Kick l) a = nothing
on_arrival Reap a = nothing
on_arrival Time a = nothing
on_arrival Ready a = nothing
on_arrival (Flow f) a = nothing

abbrev pub told : Call → Answer → Event
told c (Loaded (Ok _)) = on_load c
told c (Loaded (Err e)) = nothing
told c (Arrived (Ok a)) = on_arrival c a
told c (Arrived (Err e)) = nothing
told c (Moved (Ok Empty)) = nothing
told c (Moved (Ok (Throttled n))) = nothing
told c (Moved (Ok NoSlot)) = nothing
told c (Moved (Ok (Sent t f k))) = sent (record { ticket = t; flow = f; charge = k })
told c (Moved (Err e)) = nothing
told c (Reaped (Ok (Finished t f k status))) = finished (record { ticket = t; flow = f; charge = k })
told c (Reaped (Ok NotYet)) = nothing
told c (Reaped (Ok Idle)) = nothing
told c (Reaped (Err e)) = nothing
told c (VirtualTime v) = nothing
told c (ReadyLanes bits number) = nothing
told c (OfFlow r) = nothing

abbrev pub event : Entry → Event
event e = told e.0 e.1

-- The kind of a call, and that of an answer.
pub data Kind : Type 0 where
  loading : Kind
  arriving : Kind
  moving : Kind
  ending : Kind
  clock : Kind
  lanes : Kind
  having : Kind

abbrev pub call_kind : Call → Kind
call_kind (Load sheet) = loading
call_kind (Arrive f l n) = arriving
call_kind (Send l) = moving
call_kind (Kick l) = moving
call_kind Reap = ending
call_kind Time = clock
call_kind Ready = lanes
call_kind (Flow f) = having

abbrev pub answer_kind : Answer → Kind
answer_kind (Loaded r) = loading
answer_kind (Arrived r) = arriving
answer_kind (Moved r) = moving
answer_kind (Reaped r) = ending
answer_kind (VirtualTime v) = clock
answer_kind (ReadyLanes bits number) = lanes
answer_kind (OfFlow r) = having

-- a send or a kick did what the rule says
abbrev pub Moves : Answer → State → List Command → List Command → Outcome → Type 0
Moves a s' before after o = (a ≡ Moved o.says) × (s' ≡ o.books) × Holds o.hands before after

-- What a call answers on a board with these books and this card, and what books and card are then.
abbrev pub Step : {C : Type 0} → ℕ → (C → List Command) → (C → Option (ℕ × ℕ) → C → Type 0) → State → C → Call → Answer → State → C → Type 0
Step depth held finishes s c (Load sheet) a s' c' = (a ≡ Loaded (load_rule depth (held c) s (content_of sheet)).0) × (s' ≡ (load_rule depth (held c) s (content_of sheet)).1) × (c' ≡ c)
Step depth held finishes s c (Arrive f l n) a s' c' = (a ≡ Arrived (arrive_rule s f l n).0) × (s' ≡ (arrive_rule s f l n).1) × (c' ≡ c)
Step depth held finishes s c (Send l) a s' c' = Moves a s' (held c) (held c') (send_rule depth (held c) s l)
Step depth held finishes s c (Kick l) a s' c' = Moves a s' (held c) (held c') (kick_rule depth (held c) s l)
Step depth held finishes s c Reap a s' c' =
    (done : Option (ℕ × ℕ)) × Ends (held c) done (held c') × finishes c done c' × (a ≡ Reaped (reap_rule s done).0) × (s' ≡ (reap_rule s done).1)
Step depth held finishes s c Time a s' c' = (a ≡ VirtualTime s.time) × (s' ≡ s) × (c' ≡ c)
Step depth held finishes s c Ready a s' c' = (a ≡ ReadyLanes (ready_rule s).0 (ready_rule s).1) × (s' ≡ s) × (c' ≡ c)
Step depth held finishes s c (Flow f) a s' c' = (a ≡ OfFlow (flow_rule s f)) × (s' ≡ s) × (c' ≡ c)

-- (a record, so that its parts are read off its type)
pub record Did {C : Type 0} (cards : Ghosts C) (b : Board C cards) (call : Call) (answer : Answer) (b' : Board C cards) : Type 0 where
  pub step : Step cards.DEPTH cards.held cards.finishes (state_of b.books) b.card call answer (state_of b'.books) b'.card

-- The calls of the log, in their order, each by its rule, take the first board to the last.
pub data Run {C : Type 0} (cards : Ghosts C) (first : Board C cards) : List Entry → Board C cards → Type 0 where
  start : Run cards first [] first
  more : {log : List Entry} {b b' : Board C cards} (call : Call) (answer : Answer) → Run cards first log b → Did cards b call answer b' → Run cards first (log ++ (call, answer) ∷ []) b'

-- These calls on a new board around the card, with these answers, can lead to the card c.
pub record Reached {C : Type 0} (cards : Ghosts C) (card : C) (log : List Entry) (c : C) : Type 0 where
  pub first : Board C cards
  pub last : Board C cards
  pub new : state_of first.books ≡ empty blank
  pub around : first.card ≡ card
  pub run : Run cards first log last
  pub there : last.card ≡ c
