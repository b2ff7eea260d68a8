use Rattle.std.proofs.Common.{string_bytes}
use Rattle.reader.proofs.Fronts.{said_of_all}
use Rattle.reader.proofs.verdict.verdict.Goals as goal

pub returns : goal.returns
returns c = let v = c.verdict_on.ensures in record { value = v; enough = said_of_all string_bytes c.verdict_on.result c.args.bytes.now v }
