use Rattle.std.proofs.Common.{refl}
use Rattle.lanes.specs.Leads.{leads_of}
use Rattle.lanes.proofs.Updated.{entered, removed, replaced, stayed}
use Rattle.lanes.proofs.leads.Leads.update.Goals as goal

pub returns-in-Some-Some : goal.returns-in-Some-Some
returns-in-Some-Some c =
    let found = c.in-Some-Some in
    replaced c.args.lane (leads_of c.args.self.now) c.replace.new.self c.place.result c.args.new c.place.ensures found.at found.x c.replace.result found.is-0 found.is-1 c.replace.ensures.swapped

pub returns-in-Some-None : goal.returns-in-Some-None
returns-in-Some-None c =
    let found = c.in-Some-None in
    removed c.args.lane (leads_of c.args.self.now) c.remove.new.self c.place.result c.args.new c.place.ensures _ found.at c.remove.result found.is-0 found.is-1 c.remove.ensures.left

pub returns-in-None-Some : goal.returns-in-None-Some
returns-in-None-Some c =
    let found = c.in-None-Some in
    entered c.args.lane (leads_of c.args.self.now) c.push.new.self c.place.result c.args.new c.place.ensures found.x c.push.result found.is-0 found.is-1 c.requires c.push.ensures.entered

pub returns-in-None-None : goal.returns-in-None-None
returns-in-None-None c =
    let found = c.in-None-None in
    stayed c.args.lane (leads_of c.args.self.now) (leads_of c.args.self.now) c.place.result c.args.new c.place.ensures found.is-0 found.is-1 refl
