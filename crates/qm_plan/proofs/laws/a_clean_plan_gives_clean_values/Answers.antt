use Rattle.std.proofs.Common.{subst}
use Rattle.qm_plan.proofs.CleanValues.{Comes, plan-comes}
use Rattle.qm_plan.proofs.laws.a_clean_plan_gives_clean_values.Goals as goal

pub returns : goal.returns
returns c = record {
  ok = λ facts plan store outcome known h kept is. subst (Comes facts known) is (plan-comes facts known plan store h kept);
  err = λ facts plan store fault known h kept is. subst (Comes facts known) is (plan-comes facts known plan store h kept);
}
