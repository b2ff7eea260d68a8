use Rattle.fuzkelai.proofs.Answered.{zero_tells}
use Rattle.fuzkelai.proofs.fuzkelai_sheet_check.Goals as goal

pub returns : goal.returns
returns c = let v = c.answer_for.ensures in record { value = v; text = zero_tells c.args.bytes.now c.answer_for.result v }
