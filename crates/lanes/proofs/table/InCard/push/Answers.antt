use Rattle.std.proofs.Common.{sym, arith}
use Rattle.std.proofs.lemmas.Bool.{le-ltb, lt-ltb}
use Rattle.lanes.proofs.Removed.{length_held, stored}
use Rattle.lanes.proofs.table.InCard.push.Goals as goal

pub returns-then-self-ge-MOST-clause-answer : goal.returns-then-self-ge-MOST-clause-answer
returns-then-self-ge-MOST-clause-answer c = let t = c.args.self.now in sym (le-ltb _ 32 (omega (arith, length_held t.slots t.count t.sized t.within)))

pub returns-clause-answer : goal.returns-clause-answer
returns-clause-answer c = let t = c.args.self.now in sym (lt-ltb _ 32 (omega (arith, length_held t.slots t.count t.sized t.within)))

pub returns-clause-after : goal.returns-clause-after
returns-clause-after c = let t = c.args.self.now in stored t.slots t.count c.args.x (omega (arith, t.sized))
