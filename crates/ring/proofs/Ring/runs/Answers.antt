use Rattle.std.proofs.Common.{◌++◌, take, ap₂, ◌∙◌, rules}
use Rattle.ring.proofs.Circles.{two_runs}
use Rattle.ring.proofs.Ring.runs.Goals as goal

pub returns : goal.returns
returns g c =
    let q = c.self.inside in
    two_runs c.split_at.result.1.now c.split_at.result.0.now q.len c.saturating_sub-round.result (search rules)
    ∙ ap₂ (λ high low. take q.len (high ++ low)) c.split_at.ensures.back c.split_at.ensures.front
    ∙ c.self.view_is
