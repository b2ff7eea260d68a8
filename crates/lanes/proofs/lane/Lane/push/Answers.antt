use Rattle.lanes.proofs.Held.{entered}
use Rattle.lanes.proofs.lane.Lane.push.Goals as goal

pub returns-clause-answer : goal.returns-clause-answer
returns-clause-answer c = (entered c.args.self.now.requests c.push.new.self c.args.x c.push.result c.push.ensures.entered).answer

pub returns-clause-after : goal.returns-clause-after
returns-clause-after c = (entered c.args.self.now.requests c.push.new.self c.args.x c.push.result c.push.ensures.entered).after
