use Rattle.qm_bind.proofs.RecipeLaws.{commands-apart}
use Rattle.qm_bind.proofs.checking.recipes_blame.Goals as goal

pub put_recipes-requires-clause-apart : goal.put_recipes-requires-clause-apart
put_recipes-requires-clause-apart c = commands-apart c.args.schema.now c.parts.ensures.good
