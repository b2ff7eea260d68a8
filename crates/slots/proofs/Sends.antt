-- What a caller learns from a grant that was taken and then spent.
use Rattle.std.proofs.Common.{◌≡◌, ◌+◌, arith}
use Rattle.slots.specs.Counts.{Counts, spent, taken}

pub one_sent : (s s' s'' : Counts) → s' ≡ taken s → s'' ≡ spent s' → (s''.granted ≡ s.granted) × (s''.sent ≡ s.sent + 1) × (s''.limit ≡ s.limit)
one_sent s s' s'' take spend = rw (spend, take) (omega arith, omega arith, omega arith)
