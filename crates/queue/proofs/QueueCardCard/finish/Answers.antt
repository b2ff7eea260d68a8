use Rattle.std.proofs.Common.{◌≡◌, ◌∷◌}
use Rattle.ring.proofs.Uses.{popped_some}
use Rattle.queue.proofs.Queued.{finished_oldest}
use Rattle.queue.proofs.QueueCardCard.finish.Goals as goal

pub returns : goal.returns
returns c =
    let before = c.args.self.now.commands in
    let after = c.pop.new.self in
    let oldest = c.in_ok-oldest.oldest in
    let is : before ≡ oldest ∷ after = popped_some before after oldest c.in_ok-oldest.ensures.oldest c.pop.ensures.rest in
    record { one = finished_oldest before after oldest 0 is; answer = rw is; queue = rw is }
