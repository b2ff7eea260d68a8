use Rattle.std.proofs.Common.{codes, rules, arith}
use Rattle.script.proofs.Spelling.{word_spelt}
use Rattle.script.proofs.line.WordTryFromRefSliceU8.try_from.Goals as goal

pub returns-in-sheet : goal.returns-in-sheet
returns-in-sheet c = word_spelt c.args.name.now (codes "sheet") (omega arith) (search rules)

pub returns-in-arrive : goal.returns-in-arrive
returns-in-arrive c = word_spelt c.args.name.now (codes "arrive") (omega arith) (search rules)

pub returns-in-send : goal.returns-in-send
returns-in-send c = word_spelt c.args.name.now (codes "send") (omega arith) (search rules)

pub returns-in-kick : goal.returns-in-kick
returns-in-kick c = word_spelt c.args.name.now (codes "kick") (omega arith) (search rules)

pub returns-in-reap : goal.returns-in-reap
returns-in-reap c = word_spelt c.args.name.now (codes "reap") (omega arith) (search rules)

pub returns-in-time : goal.returns-in-time
returns-in-time c = word_spelt c.args.name.now (codes "time") (omega arith) (search rules)

pub returns-in-ready : goal.returns-in-ready
returns-in-ready c = word_spelt c.args.name.now (codes "ready") (omega arith) (search rules)

pub returns-in-flow : goal.returns-in-flow
returns-in-flow c = word_spelt c.args.name.now (codes "flow") (omega arith) (search rules)
