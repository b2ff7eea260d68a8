use Rattle.std.proofs.Common.{sym, arith}
use Rattle.script.proofs.Numbers.{below}
use Rattle.script.proofs.number.number.Goals as goal

pub overflow_cast-result : goal.overflow_cast-result
overflow_cast-result c = omega (arith, below c.args.digits.now c.in_ok-n.n (sym c.in_ok-n.ensures))
