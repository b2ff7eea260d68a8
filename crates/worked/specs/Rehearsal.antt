-- Calls on a board around a queue card, computed by the rules.
use Rattle.std.specs.Prelude.{ℕ, List, [], ◌∷◌, ◌++◌, Some, None, Ok, Err, Option, Result}
use Rattle.card.specs.declared.Command.{Command}
use Rattle.queue.specs.Queues.{finish_rule}
use Rattle.sheet.specs.Sheets.{Content, blank}
use Rattle.shares.specs.Events.{Event, loaded, arrived, nothing}
use Rattle.books.specs.Model.{State, Arrival, tagged, arrive_rule, empty}
use Rattle.books.specs.declared.refusal.Refusal.{Refusal}
use Rattle.board.specs.Answers.{outcome_of, arrival_of, sending_of, reaping_of, loading_of}
use Rattle.board.specs.Rules.{Outcome, send_rule, kick_rule, reap_rule, load_rule}
use Rattle.laws.specs.Steps.{request_of, shares_of, sent_by, finished_by}

pub data Call : Type 0 where
  load : Content → Call
  arrive : ℕ → ℕ → ℕ → Call
  send : ℕ → Call
  kick : ℕ → Call
  reap : Call

-- the books, and what the card holds, the oldest first
pub record Plane : Type 0 where
  pub books : State
  pub held : List Command

-- a new board around a card that holds nothing
abbrev pub new : Plane
new = record { books = empty blank; held = [] }

-- what a call answers, by its number and its values; what an observer learns; and books and card afterwards
pub record Done : Type 0 where
  pub says : ℕ × List ℕ
  pub tells : Event
  pub then : Plane

abbrev given : Option Command → List Command
given None = []
given (Some c) = c ∷ []

abbrev on_load : Content → Result (Unit {0}) Refusal → Event
on_load sheet (Ok _) = loaded (shares_of sheet)
on_load sheet (Err e) = nothing

abbrev on_arrival : State → ℕ → ℕ → Result Arrival Refusal → Event
on_arrival s f n (Ok _) = arrived (request_of (tagged s f n))
on_arrival s f n (Err e) = nothing

abbrev outcome : List Command → Outcome → Done
outcome held o = record { says = outcome_of sending_of o.says; tells = sent_by o.says; then = record { books = o.books; held = held ++ given o.hands } }

abbrev pub step : Plane → Call → Done
step p (load sheet) =
    let v = load_rule 16 p.held p.books sheet in
    record { says = outcome_of loading_of v.0; tells = on_load sheet v.0; then = record { books = v.1; held = p.held } }
step p (arrive f l n) =
    let v = arrive_rule p.books f l n in
    record { says = outcome_of arrival_of v.0; tells = on_arrival p.books f n v.0; then = record { books = v.1; held = p.held } }
step p (send l) = outcome p.held (send_rule 16 p.held p.books l)
step p (kick l) = outcome p.held (kick_rule 16 p.held p.books l)
step p reap =
    let c = finish_rule p.held in
    let v = reap_rule p.books c.0 in
    record { says = outcome_of reaping_of v.0; tells = finished_by v.0; then = record { books = v.1; held = c.1 } }

-- each answer, with virtual time after it
abbrev pub answers : Plane → List Call → List ((ℕ × List ℕ) × ℕ)
answers p [] = []
answers p (c ∷ cs) = let d = step p c in (d.says, d.then.books.time) ∷ answers d.then cs

-- what an observer learns
abbrev pub events : Plane → List Call → List Event
events p [] = []
events p (c ∷ cs) = let d = step p c in d.tells ∷ events d.then cs
