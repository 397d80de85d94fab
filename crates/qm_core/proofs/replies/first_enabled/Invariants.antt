use Rattle.std.proofs.Common.{◌≡◌, drop, slice_get}
use Rattle.std.specs.List.{filter_map}
use Rattle.qm_plan.specs.Applying.{enabled_by}
use Rattle.qm_core.proofs.replies.first_enabled.Given as goal

abbrev pub invariant-loop-act : goal.invariant-loop-act
invariant-loop-act l = slice_get (filter_map enabled_by (drop l.act-index l.acts)) 0 ≡ slice_get (filter_map enabled_by l.acts) 0
