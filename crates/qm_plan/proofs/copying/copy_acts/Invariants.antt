use Rattle.std.proofs.Common.{◌≡◌, take}
use Rattle.qm_plan.proofs.copying.copy_acts.Given as goal

abbrev pub invariant-loop-act : goal.invariant-loop-act
invariant-loop-act l = l.copied ≡ take l.act-index l.acts
