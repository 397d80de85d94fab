use Rattle.std.proofs.Common.{Some, None, refl}
use Rattle.qm_plan.proofs.Commits.{tally-after}
use Rattle.qm_plan.proofs.stores.Store.tally_after.Goals as goal

pub returns-in-Some-newest_count : goal.returns-in-Some-newest_count
returns-in-Some-newest_count c =
    tally-after c.args.name.now c.args.changes.now c.args.self.now (Some c.in-Some-newest_count.count) (Some c.in-Some.first) c.in-Some-newest_count.ensures c.in-Some.ensures

pub returns-in-None-newest_count : goal.returns-in-None-newest_count
returns-in-None-newest_count c =
    tally-after c.args.name.now c.args.changes.now c.args.self.now None (Some c.in-Some.first) c.in-None-newest_count.ensures c.in-Some.ensures

pub returns-in-None : goal.returns-in-None
returns-in-None c = tally-after c.args.name.now c.args.changes.now c.args.self.now _ None refl c.in-None.ensures
