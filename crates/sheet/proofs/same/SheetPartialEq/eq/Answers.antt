use Rattle.std.proofs.Common.{arith}
use Rattle.std.proofs.lemmas.Grind.{common_steps}
use Rattle.sheet.proofs.Alike.{same_sheet-Decides}
use Rattle.sheet.proofs.same.SheetPartialEq.eq.Goals as goal

pub returns-then-self-other-clause-decides : goal.returns-then-self-other-clause-decides
returns-then-self-other-clause-decides c = grind (arith, common_steps, same_sheet-Decides c.args.self.now c.args.other.now)

pub returns-else-self-other-clause-decides : goal.returns-else-self-other-clause-decides
returns-else-self-other-clause-decides c = grind (arith, common_steps, same_sheet-Decides c.args.self.now c.args.other.now)
