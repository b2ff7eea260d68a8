use Rattle.std.proofs.Common.{rules}
use Rattle.lanes.proofs.Arrays.{none_wait}
use Rattle.lanes.proofs.lanes.Lanes.new.Goals as goal

pub returns : goal.returns
returns c =
    let made = c.from_fn.ensures.items in
    none_wait 8 c.from_fn.result made.long (λ i d b. let call = made.at i d b in search rules)
