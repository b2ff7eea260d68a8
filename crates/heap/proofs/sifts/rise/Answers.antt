use Rattle.std.proofs.Common.{◌-◌, ◌<◌, arith, set, sym, ◌∙◌, subst}
use Rattle.std.proofs.lemmas.List.Sorted.{IsPermutation-trans}
use Rattle.heap.specs.Heaps.{Heaped}
use Rattle.heap.proofs.Steps as steps
use Rattle.heap.proofs.sifts.rise.Goals as goal
use Rattle.heap.proofs.sifts.rise.Goals.{else-loop-hole-test, then-loop-hole-test+then-not-lift}

pub loop-hole-preserved : goal.loop-hole-preserved
loop-hole-preserved g c =
    let lifted = c.if-not-lift.ensures in
    let up : c.loop-hole.hole - 1 < c.loop-hole.hole = omega arith in
    (omega arith, omega arith, IsPermutation-trans _ _ _ c.loop-hole.invariant.2 lifted.0, λ h. lifted.1 (c.loop-hole.invariant.3 h))

pub returns-clause-heaped : goal.returns-clause-heaped
returns-clause-heaped g c h =
    let upto = g.T.TotalOrder.upto in
    let laws = g.met.T.TotalOrder in
    let l = c.loop-hole in
    let x = c.args.x in
    elim c.loop-hole-test.branch [
      | else-loop-hole-test w ↦ subst (λ v. Heaped upto (set v l.hole x)) (sym w.s-is) (steps.rise_ends upto laws.total laws.transitive (set l.s l.hole x) l.hole w.loop-hole-test.false (l.invariant.3 h))
      | then-loop-hole-test+then-not-lift w ↦ let stays = w.if-not-lift.ensures in subst (λ v. Heaped upto (set v l.hole x)) (sym (w.s-is ∙ stays.0)) (stays.1 (l.invariant.3 h))
    ]
