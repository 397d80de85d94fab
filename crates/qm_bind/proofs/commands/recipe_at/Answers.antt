use Rattle.std.proofs.Common.{◌≡◌, ◌∙◌, Option, IfOk, option_and_then, ap, sym, subst}
use Rattle.qapi_types.specs.declared.parts.{CommandDef.CommandDef, Parts.Parts}
use Rattle.qapi_types.proofs.GoodLaws.{inside}
use Rattle.qm_plan.specs.declared.recipes.Recipe.{Recipe}
use Rattle.qm_bind.specs.{Faults.scope_of, Grammar.Scope, Recipes.recipe_of, Walks.file_in}
use Rattle.qm_bind.proofs.RecipeLaws.{scope-is, takes-below}
use Rattle.qm_bind.proofs.commands.recipe_at.Goals as goal

pub arguments_of-requires-clause-inside : goal.arguments_of-requires-clause-inside
arguments_of-requires-clause-inside c = inside c.args.context.now.schema.now c.as_slice.result.now (c.as_slice.ensures ∙ ap (λ (p : Parts). p.kinds) c.parts-parts.ensures.value) c.parts-parts.ensures.good.ranges

pub arguments_of-requires-clause-below : goal.arguments_of-requires-clause-below
arguments_of-requires-clause-below c = takes-below c.args.context.now.schema.now c.as_slice.result.now c.args.number c.command.result.now (c.as_slice.ensures ∙ ap (λ (p : Parts). p.kinds) c.parts-parts.ensures.value) c.parts-parts.ensures.good c.requires.within c.command.ensures

pub returns : goal.returns
returns c = subst (λ (o : Option Recipe). IfOk c.recipe.result (λ made. made ≡ o))
    (ap (λ (s : Scope). recipe_of s c.args.value.now) (scope-is c.args.context.now.schema.now (file_in c.args.context.now) c.args.context.now.cells.now c.args.context.now.tallies.now c.in_ok-arguments.arguments c.as_slice.result.now c.command.result.now (c.as_slice.ensures ∙ ap (λ (p : Parts). p.kinds) c.parts-parts.ensures.value) c.requires.context.cells c.requires.context.tallies c.in_ok-arguments.ensures)
    ∙ ap (option_and_then (λ (d : CommandDef). recipe_of (scope_of c.args.context.now.schema.now (file_in c.args.context.now) d) c.args.value.now)) (sym c.command.ensures))
    c.recipe.ensures
