use Rattle.std.proofs.Common.{◌≡◌, take}
use Rattle.std.specs.List.{filter_map}
use Rattle.qm_plan.specs.Applying.{job_act_of}
use Rattle.qm_plan.specs.Stores.{committed}
use Rattle.qm_plan.proofs.applying.job_acts.Given as goal

abbrev pub invariant-loop-act : goal.invariant-loop-act
invariant-loop-act l = l.made ≡ filter_map (job_act_of l.facts (committed l.changes l.store)) (take l.act-index l.acts)
