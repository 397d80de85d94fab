use Rattle.std.proofs.Common.{◌∙◌, ap, arith}
use Rattle.qapi_types.specs.declared.parts.{Parts.Parts}
use Rattle.qm_bind.specs.Goodness.{IsRecipeFor}
use Rattle.qm_bind.proofs.PairLaws.{pair-more, other-length, other-pair}
use Rattle.qm_bind.proofs.goodness.have_recipes.Goals as goal

pub returns-then-commands-recipes : goal.returns-then-commands-recipes
returns-then-commands-recipes c =
    other-length (IsRecipeFor c.args.schema.now c.args.binding.now) c.args.schema.now.commands c.args.binding.now.recipes c.as_slice-commands.result.now c.as_slice-recipes.result.now (c.as_slice-commands.ensures ∙ ap (λ (p : Parts). p.commands) c.parts.ensures.value) c.as_slice-recipes.ensures (λ e. absurd (omega (arith, c.if-commands-recipes.true, e)))

pub returns-then-not-is_recipe_for : goal.returns-then-not-is_recipe_for
returns-then-not-is_recipe_for c =
    other-pair (IsRecipeFor c.args.schema.now c.args.binding.now) c.args.schema.now.commands c.args.binding.now.recipes c.as_slice-commands.result.now c.as_slice-recipes.result.now (c.as_slice-commands.ensures ∙ ap (λ (p : Parts). p.commands) c.parts.ensures.value) c.as_slice-recipes.ensures
    c.loop-i.i c.index-commands-i.result c.index-recipes-i.result c.is_recipe_for.result (omega (arith, c.loop-i-test.true)) c.index-commands-i.is c.index-recipes-i.is c.is_recipe_for.ensures c.if-not-is_recipe_for.true

pub loop-i-preserved : goal.loop-i-preserved
loop-i-preserved c =
    pair-more (IsRecipeFor c.args.schema.now c.args.binding.now) c.as_slice-commands.result.now c.as_slice-recipes.result.now c.loop-i.i c.index-commands-i.result c.index-recipes-i.result
    (omega (arith, c.loop-i-test.true)) (omega (arith, c.loop-i-test.true, c.if-commands-recipes.false)) c.index-commands-i.is c.index-recipes-i.is c.loop-i.invariant (c.is_recipe_for.ensures.0 c.if-not-is_recipe_for.false)
