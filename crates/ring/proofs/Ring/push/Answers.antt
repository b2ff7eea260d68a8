use Rattle.std.proofs.Common.{◌+◌, ◌∷◌, [], ◌++◌, length, set, ap, ◌∙◌, arith, rules}
use Rattle.ring.specs.Circle.{window}
use Rattle.ring.proofs.Circles.{length-window, window_push}
use Rattle.ring.proofs.Ring.push.Goals as goal

pub returns : goal.returns
returns g c =
    let q = c.self.inside in
    let new = c.args.command in
    let long = length-window g.row.N q.first q.len q.places (omega (arith, c.self.invariant.0)) c.self.invariant.1 (search rules) in (
      omega (arith, long, ap length c.self.view_is),
      ap (λ j. window q.first (q.len + 1) (set q.places j new)) c.free_place-free.ensures.0
          ∙ window_push g.row.N q.first q.len q.places (omega (arith, c.self.invariant.0)) (omega arith) (search rules) new (omega arith)
          ∙ ap (λ xs. xs ++ new ∷ []) c.self.view_is,
    )
