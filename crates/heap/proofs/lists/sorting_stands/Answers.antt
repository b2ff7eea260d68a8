use Rattle.heap.proofs.Sorting.{sorting_stands_lem}
use Rattle.heap.proofs.lists.sorting_stands.Goals as goal

pub returns : goal.returns
returns g c = sorting_stands_lem g.row.T.Denot
