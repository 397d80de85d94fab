use Rattle.std.proofs.Common.{◌≡◌, Option, IfOk, subst}
use Rattle.qm_plan.specs.declared.recipes.Recipe.{Recipe}
use Rattle.qm_bind.specs.Walks.{scope_in}
use Rattle.qm_bind.proofs.RecipeLaws.{no-object, of-object}
use Rattle.qm_bind.proofs.recipes.recipe.Goals as goal

pub returns-then-is_object : goal.returns-then-is_object
returns-then-is_object c = subst (λ (o : Option Recipe). IfOk c.of_object.result (λ made. made ≡ o)) (of-object (scope_in c.args.names.now) c.args.value.now c.is_object.result c.is_object.ensures c.if-is_object.true) c.of_object.ensures

pub returns-else-is_object : goal.returns-else-is_object
returns-else-is_object c = no-object (scope_in c.args.names.now) c.args.value.now c.is_object.result c.is_object.ensures c.if-is_object.false
