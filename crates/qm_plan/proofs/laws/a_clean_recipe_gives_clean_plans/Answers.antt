use Rattle.qm_plan.proofs.CleanPlans.{plan-clean, arguments-clean}
use Rattle.qm_plan.proofs.laws.a_clean_recipe_gives_clean_plans.Goals as goal

pub returns : goal.returns
returns c = record {
  arguments = λ recipe arguments h clean. plan-clean arguments clean recipe h;
  request = λ recipe call h clean. plan-clean _ (arguments-clean call clean) recipe h;
}
