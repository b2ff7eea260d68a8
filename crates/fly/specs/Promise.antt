-- What a flight promises, for every card and every list of calls, told by the calls, their answers, and what the card holds.
use Rattle.std.specs.Prelude.{◌≡◌, ℕ, ◌<◌, ◌≤◌, List, ◌∷◌, ◌++◌, map, length, Some}
use Rattle.std.specs.List.{zip}
use Rattle.std.specs.List.Sorted.{IsPermutation}
use Rattle.card.specs.Commands.{command}
use Rattle.card.specs.declared.Card.{Ghosts}
use Rattle.card.specs.declared.Command.{Command}
use Rattle.shares.specs.Events.{Sheet, Request, Event, loaded, arrived, sent, finished, nothing, Seen, seen}
use Rattle.shares.specs.Law.{Law}
use Rattle.fly.specs.Flights.{Entry, event, told, call_kind, answer_kind, Reached}
use Rattle.fly.specs.declared.call.Answer.{Answer}
use Rattle.fly.specs.declared.call.Call.{Call}
use Rattle.fly.specs.declared.call.Call.TheVariants.{Kick}

-- what an observer has noted after the calls of the log
abbrev pub after : List Entry → Seen
after log = seen (map event log)

-- the command of a request: its ticket, with its arrival's length
abbrev pub command_of : Request → Command
command_of r = command r.ticket r.sectors

-- Under a sheet the card holds the command of each request that is sent and unfinished once, and no other, and they are no more than the slots.
abbrev pub Holds : List Entry → List Command → Type 0
Holds log held = (s : Sheet) → (after log).sheet ≡ Some s → IsPermutation (map command_of (after log).unfinished) held × (length held ≤ s.slots)

abbrev pub IsSent : Event → Type 0
IsSent (loaded s) = ⊥
IsSent (arrived r) = ⊥
IsSent (sent m) = Unit {0}
IsSent (finished m) = ⊥
IsSent nothing = ⊥

-- a slot is free, and a request waits
abbrev pub CanSend : Sheet → Seen → Type 0
CanSend s t = (length t.unfinished < s.slots) × (0 < length t.waiting)

-- A kick on a lane of the sheet sends exactly when it can.
abbrev pub Kicks : List Entry → Type 0
Kicks log = (before rest : List Entry) (s : Sheet) (l : ℕ) (a : Answer) → before ++ ((Kick l, a) ∷ rest) ≡ log → (after before).sheet ≡ Some s → l < s.lanes
    → (IsSent (told (Kick l) a) → CanSend s (after before)) × (CanSend s (after before) → IsSent (told (Kick l) a))

-- The whole promise.
pub record Promise {C : Type 0} (cards : Ghosts C) (card : C) (calls : List Call) (answers : List Answer) (card' : C) : Type 0 where
  -- each call has one answer, of its kind
  pub kinds : map call_kind calls ≡ map answer_kind answers
  -- the answers are those of the rules, from a new board around the card on
  pub reached : Reached cards card (zip calls answers) card'
  -- shares by weight, tickets, and what is sent and finished
  pub law : Law (map event (zip calls answers))
  -- what the card holds, at each point of the list
  pub holds : (before rest : List Entry) (c : C) → before ++ rest ≡ zip calls answers → Reached cards card before c → Holds before (cards.held c)
  pub kicks : Kicks (zip calls answers)
