use Rattle.std.proofs.Common.{◌≡◌, drop}
use Rattle.qm_plan.specs.Applying.{acts_of}
use Rattle.qm_plan.specs.Stores.{committed}
use Rattle.qm_plan.proofs.applying.changes_by.Given as goal

abbrev pub invariant-loop-next : goal.invariant-loop-next
invariant-loop-next l = acts_of l.facts (drop l.next-index l.acts) (committed l.changes l.store) ≡ acts_of l.facts l.acts l.store
