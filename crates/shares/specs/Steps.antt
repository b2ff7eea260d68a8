-- The books of a fair-queueing board, and what each event may do to them: a relation, and no program. Whatever keeps it has fair shares.
use Rattle.std.specs.Prelude.{◌≡◌, ℕ, ◌+◌, ◌<◌, ◌≤◌, max, ◌⊎◌, List, [], ◌∷◌, length, Some, None, Option, ◌≢◌}
use Rattle.std.specs.List.{AllByRecursion}
use Rattle.std.specs.List.Sorted.{IsPermutation}
use Rattle.shares.specs.Events.{Sheet, Request, mark, Event, loaded, arrived, sent, finished, nothing, seen}
use Rattle.shares.specs.Law.{Law}

-- The sheet in force, virtual time, each flow's end tag, the requests that wait and those in the card, and the number of arrivals since the load.
pub record Books : Type 0 where
  pub sheet : Option Sheet
  pub time : ℕ
  pub end : ℕ → ℕ
  pub waiting : List Request
  pub card : List Request
  pub count : ℕ

-- Virtual time after a request has joined or left those that wait: it never falls, and no waiting request starts before it.
pub record Clock (b b' : Books) : Type 0 where
  pub onward : b.time ≤ b'.time
  pub least : AllByRecursion (λ r. b'.time ≤ r.start) b'.waiting

-- The same requests wait: virtual time stays where it is, or nothing waits. (`IsPermutation`: two lists have the same elements, in any order.)
pub record Calm (b b' : Books) : Type 0 where
  pub waiting : IsPermutation b.waiting b'.waiting
  pub onward : b.time ≤ b'.time
  pub still : (b.waiting ≡ []) ⊎ (b'.time ≡ b.time)

-- A load empties the books.
pub record Loads (b : Books) (s : Sheet) (b' : Books) : Type 0 where
  pub none_waited : b.waiting ≡ []
  pub card_was_empty : b.card ≡ []
  pub sheet : b'.sheet ≡ Some s
  pub time : b'.time ≡ 0
  pub tags : (f : ℕ) → b'.end f ≡ 0
  pub waiting : b'.waiting ≡ []
  pub card : b'.card ≡ []
  pub count : b'.count ≡ 0

-- An arrival starts at the greater of virtual time and its flow's end tag, and ends its charge later, which is the flow's end tag then.
pub record Arrives (b : Books) (s : Sheet) (r : Request) (b' : Books) : Type 0 where
  pub ticket : r.ticket ≡ b.count
  pub charge : r.charge ≡ s.charge r.flow r.sectors
  pub some : 1 ≤ r.charge
  pub most : r.charge ≤ s.largest r.flow
  pub starts : r.start ≡ max b.time (b.end r.flow)
  pub ends : r.end ≡ r.start + r.charge
  pub tag : b'.end r.flow ≡ r.end
  pub tags : (f : ℕ) → (f ≢ r.flow) → b'.end f ≡ b.end f
  pub count : b'.count ≡ b.count + 1
  pub waiting : IsPermutation (r ∷ b.waiting) b'.waiting
  pub card : IsPermutation b.card b'.card
  pub sheet : b'.sheet ≡ b.sheet
  pub clock : Clock b b'

-- A request that starts at most the threshold after virtual time goes from those that wait into the card, where a slot is free.
pub record Sends (b : Books) (s : Sheet) (r : Request) (b' : Books) : Type 0 where
  pub near : r.start ≤ b.time + s.threshold
  pub room : length b.card < s.slots
  pub waiting : IsPermutation b.waiting (r ∷ b'.waiting)
  pub card : IsPermutation (r ∷ b.card) b'.card
  pub tags : (f : ℕ) → b'.end f ≡ b.end f
  pub count : b'.count ≡ b.count
  pub sheet : b'.sheet ≡ b.sheet
  pub clock : Clock b b'

-- A request leaves the card.
pub record Finishes (b : Books) (r : Request) (b' : Books) : Type 0 where
  pub card : IsPermutation b.card (r ∷ b'.card)
  pub calm : Calm b b'
  pub tags : (f : ℕ) → b'.end f ≡ b.end f
  pub count : b'.count ≡ b.count
  pub sheet : b'.sheet ≡ b.sheet

-- A refusal, a question, or nothing to do.
pub record Rests (b b' : Books) : Type 0 where
  pub card : IsPermutation b.card b'.card
  pub calm : Calm b b'
  pub tags : (f : ℕ) → b'.end f ≡ b.end f
  pub count : b'.count ≡ b.count
  pub sheet : b'.sheet ≡ b.sheet

-- Before the first load there is no event but a load and `nothing`.
abbrev pub Step : Books → Event → Books → Type 0
Step b (loaded s) b' = Loads b s b'
Step b (arrived r) b' = (s : Sheet) × (b.sheet ≡ Some s) × Arrives b s r b'
Step b (sent m) b' = (s : Sheet) × (b.sheet ≡ Some s) × (r : Request) × (mark r ≡ m) × Sends b s r b'
Step b (finished m) b' = (s : Sheet) × (b.sheet ≡ Some s) × (r : Request) × (mark r ≡ m) × Finishes b r b'
Step b nothing b' = Rests b b'

pub data Runs : Books → List Event → Books → Type 0 where
  stop : {b : Books} → Runs b [] b
  step : {b b' b'' : Books} {e : Event} {es : List Event} → Step b e b' → Runs b' es b'' → Runs b (e ∷ es) b''

-- A board on which no sheet was loaded yet: nothing waits, and nothing is known of the card.
pub record New (b : Books) : Type 0 where
  pub sheet : b.sheet ≡ None
  pub waiting : b.waiting ≡ []

-- The books b say what an observer of the events es has noted, once a sheet is loaded, and the card has room.
pub record Noted (es : List Event) (b : Books) : Type 0 where
  pub sheet : (seen es).sheet ≡ b.sheet
  pub waiting : (s : Sheet) → b.sheet ≡ Some s → IsPermutation (seen es).waiting b.waiting
  pub card : (s : Sheet) → b.sheet ≡ Some s → IsPermutation (seen es).unfinished b.card
  pub room : (s : Sheet) → b.sheet ≡ Some s → length b.card ≤ s.slots

-- The law holds of every run from a new board.
abbrev pub Shares : Type 0
Shares = (new b : Books) (es : List Event) → New new → Runs new es b → Law es × Noted es b
