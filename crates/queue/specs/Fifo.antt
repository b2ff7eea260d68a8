-- First in, first out: over any calls, a queue card finishes commands in the order in which it took them.
use Rattle.std.specs.Prelude.{◌≡◌, ℕ, cond, List, [], ◌∷◌, ◌++◌, map, is_ok, Some, None, Option}
use Rattle.card.specs.declared.Command.{Command}
use Rattle.queue.specs.Queues.{submit_rule, finish_rule}

-- a call: submit of a command, or finish
pub data Call : Type 0 where
  submit : Command → Call
  finish : Call

-- what one call leaves in the queue
abbrev pub next : List Command → Call → List Command
next queue (submit c) = (submit_rule queue c).1
next queue finish = (finish_rule queue).1

-- the ticket that one call puts into the queue, if any
abbrev pub took : List Command → Call → List ℕ
took queue (submit c) = cond (is_ok (submit_rule queue c).0) (c.ticket ∷ []) []
took queue finish = []

-- the ticket in an answer of finish, if any
abbrev pub ticket_in : Option (ℕ × ℕ) → List ℕ
ticket_in None = []
ticket_in (Some done) = done.0 ∷ []

-- the ticket that one call answers, if any
abbrev pub gave : List Command → Call → List ℕ
gave queue (submit c) = []
gave queue finish = ticket_in (finish_rule queue).0

-- what some calls leave in the queue, and the tickets that they put into it and answer, in their order
abbrev pub after : List Command → List Call → List Command
after queue [] = queue
after queue (call ∷ calls) = after (next queue call) calls

abbrev pub accepted : List Command → List Call → List ℕ
accepted queue [] = []
accepted queue (call ∷ calls) = took queue call ++ accepted (next queue call) calls

abbrev pub finished : List Command → List Call → List ℕ
finished queue [] = []
finished queue (call ∷ calls) = gave queue call ++ finished (next queue call) calls

abbrev pub tickets : List Command → List ℕ
tickets queue = map (λ c. c.ticket) queue

-- those held at first and then those accepted are, in this order, those finished and then those still held
abbrev pub Fifo : Type 0
Fifo = (queue : List Command) (calls : List Call) → tickets queue ++ accepted queue calls ≡ finished queue calls ++ tickets (after queue calls)
