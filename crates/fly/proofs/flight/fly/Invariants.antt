use Rattle.std.proofs.Common.{◌≡◌, ◌≤◌, length, take, vec_items, vec_len, vec_capacity}
use Rattle.std.specs.List.{zip}
use Rattle.fly.specs.Flights.{Run}
use Rattle.fly.proofs.flight.fly.Given as goal

abbrev pub invariant-loop-call : goal.invariant-loop-call
invariant-loop-call g l =
    (length (vec_items l.answers) ≡ l.call-index)
    × (vec_len l.answers ≡ l.call-index)
    × (length l.calls ≤ vec_capacity l.answers)
    × Run g.C.Card l.initial.board (zip (take l.call-index l.calls) (vec_items l.answers)) l.board
