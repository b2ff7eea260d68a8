use Rattle.std.proofs.Common.{◌≡◌, ◌+◌, ◌≤◌, length}
use Rattle.card.specs.Asking.{Asked}
use Rattle.card.proofs.drain.Given as goal

abbrev pub invariant-loop-turn : goal.invariant-loop-turn
invariant-loop-turn g l = (l.finished ≤ l._turn) × Asked g.C.Card.finishes l.initial.card l._turn l.finished l.card × (length (g.C.Card.held l.initial.card) ≡ length (g.C.Card.held l.card) + l.finished)
