use Rattle.std.proofs.Common.{◌≡◌, ◌<◌, false, [], ◌∷◌, ◌++◌, length, sym, ap, ◌∙◌, subst, arith}
use Rattle.card.specs.Commands.{among, Submitted}
use Rattle.card.proofs.Bags.{more_end}
use Rattle.ring.proofs.Uses.{pushed_room}
use Rattle.queue.proofs.Queued.{submit_taken}
use Rattle.queue.proofs.QueueCardCard.submit.Goals as goal

pub returns : goal.returns
returns c =
    let before = c.args.self.now.commands in
    let after = c.push.new.self in
    let d = c.args.command in
    let room : length before < 16 = omega arith in
    let new : among d.ticket before ≡ false = sym c.if-contains.ensures in
    let pushed = pushed_room 16 before after (before ++ d ∷ []) c.push.result room c.push.ensures in
    let rule = submit_taken before d room new in
    record { card = subst (λ r. Submitted 16 before d r after) (sym pushed.0) (room, new, more_end d before after pushed.1); answer = pushed.0 ∙ sym (ap (λ p. p.0) rule); queue = pushed.1 ∙ sym (ap (λ p. p.1) rule) }
