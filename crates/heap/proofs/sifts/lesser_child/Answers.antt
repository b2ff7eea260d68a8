use Rattle.std.proofs.Common.{◌≡◌, ◌+◌, ◌*◌, true, false, sym, arith}
use Rattle.std.proofs.lemmas.List.Elements.{pair_read}
use Rattle.heap.proofs.Steps as steps
use Rattle.heap.proofs.sifts.lesser_child.Goals as goal
use Rattle.heap.proofs.sifts.lesser_child.Goals.{else-left-s-via-then-left-s+else-not-at_or_before, else-left-s-via-else-left-s}

pub returns-then-not-at_or_before-clause-least : goal.returns-then-not-at_or_before-clause-least
returns-then-not-at_or_before-clause-least g c =
    let upto = g.T.TotalOrder.upto in
    let laws = g.met.T.TotalOrder in
    let s = c.args.s.now in
    let left = c.args.i * 2 + 1 in
    steps.right_least upto laws.total laws.transitive s c.args.i (pair_read s (λ x y. upto x y ≡ false) left (left + 1) _ _ (omega arith) (omega arith) c.index-s-left.is c.index-s-left-then-left-s.is (sym c.if-not-at_or_before.ensures))

pub returns-else-left-s-clause-least : goal.returns-else-left-s-clause-least
returns-else-left-s-clause-least g c =
    let upto = g.T.TotalOrder.upto in
    let laws = g.met.T.TotalOrder in
    let s = c.args.s.now in
    let left = c.args.i * 2 + 1 in
    elim c.else-left-s.branch [
      | else-left-s-via-then-left-s+else-not-at_or_before w ↦ steps.left_least upto laws.total laws.transitive s c.args.i (pair_read s (λ x y. upto x y ≡ true) left (left + 1) _ _ (omega arith) (omega arith) w.index-s-left.is w.index-s-left-then-left-s.is (sym w.if-not-at_or_before.ensures))
      | else-left-s-via-else-left-s w ↦ steps.left_only upto laws.total laws.transitive s c.args.i (omega arith)
    ]
