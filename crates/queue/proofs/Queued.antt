-- What a command behind the queue, and the oldest taken from it, mean for a card.
use Rattle.std.proofs.Common.{◌≡◌, ℕ, ◌<◌, false, List, [], ◌∷◌, ◌++◌, length, Some, Ok, sym, subst, lt-ltb}
use Rattle.card.specs.declared.Command.{Command}
use Rattle.card.specs.Commands.{among, More, Finished}
use Rattle.card.proofs.Bags.{same_refl}
use Rattle.queue.specs.Queues.{submit_rule}

pub submit_taken : (queue : List Command) (c : Command) → length queue < 16 → among c.ticket queue ≡ false → submit_rule queue c ≡ (Ok tt, queue ++ c ∷ [])
submit_taken queue c room new = rw (lt-ltb (length queue) 16 room, new)

pub finished_oldest : (queue after : List Command) (c : Command) (status : ℕ) → queue ≡ c ∷ after → Finished queue (Some (c.ticket, status)) after
finished_oldest queue after c status is = (c.sectors, subst (λ cs. More c after cs) (sym is) (same_refl (c ∷ after)))
