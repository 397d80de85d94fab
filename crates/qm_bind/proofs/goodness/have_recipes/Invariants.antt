use Rattle.std.proofs.Common.{take}
use Rattle.std.specs.List.{AllZip}
use Rattle.qm_bind.specs.Goodness.{IsRecipeFor}
use Rattle.qm_bind.proofs.goodness.have_recipes.Given as goal

abbrev pub invariant-loop-i : goal.invariant-loop-i
invariant-loop-i l = AllZip (IsRecipeFor l.schema l.binding) (take l.i l.commands) (take l.i l.recipes)
