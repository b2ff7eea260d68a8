use Rattle.std.proofs.Common.{set, arith}
use Rattle.std.proofs.lemmas.List.{length-set}
use Rattle.std.proofs.lemmas.List.Sorted.{IsPermutation-trans}
use Rattle.heap.proofs.Steps as steps
use Rattle.heap.proofs.sifts.sink.Goals as goal

pub returns : goal.returns
returns g c =
    let l = c.loop-hole in
    let laws = g.met.T.TotalOrder in
    record {
      within = omega arith;
      shuffled = l.invariant.2;
      rising = λ x h.
          let wide = length-set l.s l.hole x in
          steps.sink_ends g.T.TotalOrder.upto laws.total laws.transitive (set l.s l.hole x) l.hole (omega arith) (l.invariant.3 x h);
    }

pub loop-hole-preserved : goal.loop-hole-preserved
loop-hole-preserved g c =
    let l = c.loop-hole in (
      omega arith,
      omega arith,
      λ x. IsPermutation-trans _ _ _ (l.invariant.2 x) (c.pull.ensures.shuffled x),
      λ x h. c.pull.ensures.free x (l.invariant.3 x h),
    )
