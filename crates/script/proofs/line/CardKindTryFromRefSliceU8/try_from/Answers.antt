use Rattle.std.proofs.Common.{codes, rules, arith}
use Rattle.script.proofs.Spelling.{card_spelt}
use Rattle.script.proofs.line.CardKindTryFromRefSliceU8.try_from.Goals as goal

pub returns-in-99-2 : goal.returns-in-99-2
returns-in-99-2 c = card_spelt c.args.line.now (codes "card bank") (omega arith) (search rules)

pub returns-in-99 : goal.returns-in-99
returns-in-99 c = card_spelt c.args.line.now (codes "card queue") (omega arith) (search rules)
