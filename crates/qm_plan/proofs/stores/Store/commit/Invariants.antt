use Rattle.std.proofs.Common.{◌≡◌}
use Rattle.std.specs.Vec.Iter.{into_iter_items}
use Rattle.qm_plan.specs.Stores.{committed}
use Rattle.qm_plan.proofs.stores.Store.commit.Given as goal

abbrev pub invariant-loop-change : goal.invariant-loop-change
invariant-loop-change l = committed (into_iter_items l.change-iterator) l.self ≡ committed l.fn.changes l.fn.self
