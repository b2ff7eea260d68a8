use Rattle.queue.proofs.Orders.{fifo}
use Rattle.queue.proofs.queue_law.Goals as goal

pub returns : goal.returns
returns c = fifo
