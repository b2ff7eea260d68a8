use Rattle.reader.proofs.Accounts.{reads_text, reads_account, reads_small}
use Rattle.reader.proofs.read.Goals as goal

pub returns-clause-text : goal.returns-clause-text
returns-clause-text c = reads_text c.args.bytes.now c.args.place.now c.read_by_rules.new.place c.read_by_rules.result c.read_by_rules.ensures

pub returns-clause-account : goal.returns-clause-account
returns-clause-account c = reads_account c.args.bytes.now c.args.place.now c.read_by_rules.new.place c.read_by_rules.result c.read_by_rules.ensures

pub returns-clause-small : goal.returns-clause-small
returns-clause-small c = reads_small c.args.bytes.now c.args.place.now c.read_by_rules.new.place c.read_by_rules.result c.read_by_rules.ensures
