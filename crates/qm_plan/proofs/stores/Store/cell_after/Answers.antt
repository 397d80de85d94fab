use Rattle.std.proofs.Common.{Some, None, refl}
use Rattle.qm_plan.proofs.Commits.{cell-after}
use Rattle.qm_plan.proofs.stores.Store.cell_after.Goals as goal

pub returns-in-Some-newest_value : goal.returns-in-Some-newest_value
returns-in-Some-newest_value c =
    cell-after c.args.name.now c.args.changes.now c.args.self.now (Some c.in-Some-newest_value.value.now) (Some c.in-Some.first.now) c.in-Some-newest_value.ensures c.in-Some.ensures

pub returns-in-None-newest_value : goal.returns-in-None-newest_value
returns-in-None-newest_value c =
    cell-after c.args.name.now c.args.changes.now c.args.self.now None (Some c.in-Some.first.now) c.in-None-newest_value.ensures c.in-Some.ensures

pub returns-in-None : goal.returns-in-None
returns-in-None c = cell-after c.args.name.now c.args.changes.now c.args.self.now _ None refl c.in-None.ensures
