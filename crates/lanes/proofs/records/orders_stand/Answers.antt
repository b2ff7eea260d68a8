use Rattle.heap.proofs.Sorting.{upto_alike, upto_chain, upto_either}
use Rattle.lanes.specs.Records.{by_start}
use Rattle.lanes.proofs.records.orders_stand.Goals as goal

pub returns-clause-request_order : goal.returns-clause-request_order
returns-clause-request_order c =
    record {
      total = λ x y. upto_either (by_start x) (by_start y);
      antisymmetric = λ x y. upto_alike (by_start x) (by_start y);
      transitive = λ x y z. upto_chain (by_start x) (by_start y) (by_start z);
    }
