use Rattle.std.proofs.Common.{◌≡◌, take}
use Rattle.std.specs.List.{filter_map}
use Rattle.qm_plan.specs.Applying.{raised_of}
use Rattle.qm_plan.specs.Stores.{committed}
use Rattle.qm_plan.proofs.applying.raise_all.Given as goal

abbrev pub invariant-loop-act : goal.invariant-loop-act
invariant-loop-act l = l.raised ≡ filter_map (raised_of l.facts (committed l.changes l.store)) (take l.act-index l.acts)
