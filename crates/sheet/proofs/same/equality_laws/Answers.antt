use Rattle.sheet.proofs.Alike.{same_sheet-Decides}
use Rattle.sheet.proofs.same.equality_laws.Goals as goal

pub returns-clause-sheets_alike : goal.returns-clause-sheets_alike
returns-clause-sheets_alike c = same_sheet-Decides
