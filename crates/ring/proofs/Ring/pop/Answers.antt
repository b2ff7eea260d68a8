use Rattle.std.proofs.Common.{◌-◌, ◌<◌, sym, ap, ◌∙◌, arith, rules}
use Rattle.ring.specs.Circle.{window}
use Rattle.ring.specs.Rings.{tail_of}
use Rattle.ring.proofs.Circles.{window_pop}
use Rattle.ring.proofs.Ring.pop.Goals as goal

pub returns-clause-rest : goal.returns-clause-rest
returns-clause-rest g c =
    let q = c.self.inside in
    let some : 0 < q.len = search rules in
    let split = window_pop g.row.N q.first q.len q.places (omega (arith, c.self.invariant.0, c.self.invariant.1)) c.self.invariant.1 (search rules) c.in_ok-oldest.oldest some in
    ap (λ p. window p (q.len - 1) q.places) c.next-self-inside.ensures ∙ ap tail_of (sym split ∙ c.self.view_is)
