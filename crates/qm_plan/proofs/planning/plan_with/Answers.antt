use Rattle.std.proofs.Common.{◌≡◌, IfOk, subst}
use Rattle.qm_json.specs.declared.value.Json.{Json}
use Rattle.qm_plan.specs.Plans.{plan_of}
use Rattle.qm_plan.proofs.planning.plan_with.Goals as goal

pub returns-in-Some : goal.returns-in-Some
returns-in-Some c = rw c.in-Some.is c.fill_recipe.ensures

pub returns-in-None : goal.returns-in-None
returns-in-None c =
    rw c.in-None.is
    (subst (λ (a : Json). IfOk c.fill_recipe-in-None.result (λ plan. plan ≡ plan_of c.args.recipe.now a)) c.empty.ensures c.fill_recipe-in-None.ensures)
