use Rattle.std.proofs.Common.{rules}
use Rattle.script.proofs.line.read_line.Goals as goal
use Rattle.script.proofs.line.read_line.Goals.{in-Some, in-None}

pub returns : goal.returns
returns c = elim c.match-numbers.branch [ in-Some w ↦ search rules | in-None w ↦ search rules ]
