use Rattle.std.proofs.Common.{◌≡◌, take, map}
use Rattle.qm_core.specs.Effects.{command_value}
use Rattle.qm_core.proofs.world.command_values.Given as goal

abbrev pub invariant-loop-command : goal.invariant-loop-command
invariant-loop-command l = l.values ≡ map command_value (take l.command-index l.commands)
