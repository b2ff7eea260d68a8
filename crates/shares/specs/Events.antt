-- What an observer of a board learns, event by event, and what it has noted after some events. Events stand in the order in which they came.
use Rattle.std.specs.Prelude.{ℕ, ◌+◌, not, List, [], ◌∷◌, ◌++◌, Some, None, fold, filter, Option, ◌==◌, nat_eq}

-- A share sheet, as far as shares depend on it.
pub record Sheet : Type 0 where
  -- how far ahead of virtual time a request may start
  pub threshold : ℕ
  -- how many requests may be in the card
  pub slots : ℕ
  -- how many lanes there are
  pub lanes : ℕ
  -- the charge of a flow's request, by the flow and the length
  pub charge : ℕ → ℕ → ℕ
  -- the charge of a flow's longest request
  pub largest : ℕ → ℕ

-- A request, as its arrival tells it; its charge is what lies between its tags.
pub record Request : Type 0 where
  pub ticket : ℕ
  pub flow : ℕ
  pub sectors : ℕ
  pub start : ℕ
  pub end : ℕ
  pub charge : ℕ

-- What is told of a request when it is sent, and when it finishes.
pub record Mark : Type 0 where
  pub ticket : ℕ
  pub flow : ℕ
  pub charge : ℕ

abbrev pub mark : Request → Mark
mark r = record { ticket = r.ticket; flow = r.flow; charge = r.charge }

-- A call with its answer: an accepted load or arrival, a request that was sent or finished, or a call after which nothing has changed.
pub data Event : Type 0 where
  loaded : Sheet → Event
  arrived : Request → Event
  sent : Mark → Event
  finished : Mark → Event
  nothing : Event

-- What an observer has noted: the sheet of the last load, and of the time since then, which requests wait, which are sent and unfinished, and how many have arrived.
pub record Seen : Type 0 where
  pub sheet : Option Sheet
  pub waiting : List Request
  pub unfinished : List Request
  pub count : ℕ

abbrev pub with_ticket : ℕ → List Request → List Request
with_ticket t rs = filter (λ r. nat_eq r.ticket t) rs

abbrev pub without_ticket : ℕ → List Request → List Request
without_ticket t rs = filter (λ r. not (r.ticket == t)) rs

-- A request is known by its ticket. It waits from its arrival until a `sent` names it, and is sent and unfinished from then until a `finished` names it.
abbrev pub note : Seen → Event → Seen
note t (loaded s) = record { sheet = Some s; waiting = []; unfinished = []; count = 0 }
note t (arrived r) = record { sheet = t.sheet; waiting = r ∷ t.waiting; unfinished = t.unfinished; count = t.count + 1 }
note t (sent m) = record { sheet = t.sheet; waiting = without_ticket m.ticket t.waiting; unfinished = with_ticket m.ticket t.waiting ++ t.unfinished; count = t.count }
note t (finished m) = record { sheet = t.sheet; waiting = t.waiting; unfinished = without_ticket m.ticket t.unfinished; count = t.count }
note t nothing = t

-- Before the first event no sheet is in force.
abbrev pub unseen : Seen
unseen = record { sheet = None; waiting = []; unfinished = []; count = 0 }

abbrev pub seen : List Event → Seen
seen es = fold note unseen es
