use Rattle.qm_bind.specs.Walks.{file_in}
use Rattle.qm_bind.proofs.PlaceLaws.{Placed}
use Rattle.qm_bind.proofs.commands.put_recipes.Given as goal

abbrev pub invariant-loop-member : goal.invariant-loop-member
invariant-loop-member l = Placed l.context.schema.now (file_in l.context) l.members l.member-index l.recipes.items
