use Rattle.std.proofs.lemmas.List.Sorted.{IsPermutation-trans}
use Rattle.heap.proofs.sifts.settle.Goals as goal

pub returns-clause-shuffled : goal.returns-clause-shuffled
returns-clause-shuffled g c = IsPermutation-trans _ _ _ (c.sink-leaf.ensures.shuffled c.args.x) c.rise.ensures.shuffled
