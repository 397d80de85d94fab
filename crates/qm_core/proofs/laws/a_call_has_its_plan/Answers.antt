use Rattle.qm_core.proofs.StoreLaws.{planned_call}
use Rattle.qm_core.proofs.laws.a_call_has_its_plan.Goals as goal

pub returns : goal.returns
returns c = planned_call
