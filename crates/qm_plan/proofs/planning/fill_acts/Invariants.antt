use Rattle.std.proofs.Common.{◌≡◌, take}
use Rattle.std.specs.List.{filter_map}
use Rattle.qm_plan.specs.Plans.{filled_act}
use Rattle.qm_plan.proofs.planning.fill_acts.Given as goal

abbrev pub invariant-loop-act : goal.invariant-loop-act
invariant-loop-act l = l.left ≡ filter_map (filled_act l.arguments) (take l.act-index l.acts)
