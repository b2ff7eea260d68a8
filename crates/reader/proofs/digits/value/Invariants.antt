use Rattle.std.proofs.Common.{◌≡◌, drop}
use Rattle.reader.specs.Lines.{value_below}
use Rattle.reader.proofs.digits.value.Given as goal

abbrev pub invariant-loop-byte : goal.invariant-loop-byte
invariant-loop-byte l = value_below l.limit l.n (drop l.byte-index l.digits) ≡ value_below l.limit 0 l.digits
