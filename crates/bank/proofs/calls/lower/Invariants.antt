use Rattle.std.proofs.Common.{◌≡◌, ◌++◌, map, take, drop}
use Rattle.bank.specs.Jobs.{lowered}
use Rattle.bank.proofs.calls.lower.Given as goal

-- those before the index are lowered, and the others are as they were
abbrev pub invariant-loop-bank : goal.invariant-loop-bank
invariant-loop-bank l = l.banks ≡ map lowered (take l.bank-index l.initial.banks) ++ drop l.bank-index l.initial.banks
