use Rattle.std.proofs.Common.{◌≡◌, map, take}
use Rattle.qm_bind.specs.Bindings.{default_recipe}
use Rattle.qm_bind.proofs.commands.defaults.Given as goal

abbrev pub invariant-loop-command : goal.invariant-loop-command
invariant-loop-command l = l.recipes.items ≡ map default_recipe (take l.command-index l.commands)
