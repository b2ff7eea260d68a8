-- First in, first out, by the calls one after another.
use Rattle.std.proofs.Common.{◌≡◌, Bool, true, false, cond, ltb, List, [], ◌∷◌, ◌++◌, length, is_ok, Ok, Err, Result, sym, refl, ap, ◌∙◌, append_assoc}
use Rattle.std.proofs.lemmas.List.{append-nil, map_push}
use Rattle.card.specs.declared.Command.{Command}
use Rattle.card.specs.declared.CardFault.{CardFault}
use Rattle.card.specs.declared.CardFault.TheVariants.{Full, HeldAlready}
use Rattle.card.specs.Commands.{among}
use Rattle.queue.specs.Fifo.{Call, submit, finish, next, took, gave, after, accepted, finished, tickets, Fifo}

-- one submit, whichever way its two tests come out
submitted : (queue : List Command) (c : Command) (room held : Bool) → let r : Result (Unit {0}) CardFault × List Command = cond room (cond held (Err HeldAlready, queue) (Ok tt, queue ++ c ∷ [])) (Err Full, queue) in tickets queue ++ cond (is_ok r.0) (c.ticket ∷ []) [] ≡ tickets r.1
submitted queue c true true = append-nil (tickets queue)
submitted queue c true false = sym (map_push (λ c. c.ticket) queue c)
submitted queue c false held = append-nil (tickets queue)

-- one call: what it takes goes to the end, what it answers comes from the front
one : (queue : List Command) (call : Call) → tickets queue ++ took queue call ≡ gave queue call ++ tickets (next queue call)
one queue (submit c) = submitted queue c (ltb (length queue) 16) (among c.ticket queue)
one [] finish = refl
one (c ∷ queue) finish = append-nil (tickets (c ∷ queue))

pub fifo : Fifo
fifo queue [] = append-nil (tickets queue)
fifo queue (call ∷ calls) =
    let q = tickets queue in
    let rest = fifo (next queue call) calls in
    sym (append_assoc q (took queue call) (accepted (next queue call) calls)) ∙ ap (λ xs. xs ++ accepted (next queue call) calls) (one queue call) ∙ append_assoc (gave queue call) (tickets (next queue call)) (accepted (next queue call) calls) ∙ ap (λ xs. gave queue call ++ xs) rest ∙ sym (append_assoc (gave queue call) (finished (next queue call) calls) (tickets (after (next queue call) calls)))
