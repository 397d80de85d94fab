use Rattle.std.proofs.Common.{◌≡◌, map, take}
use Rattle.qapi_types.proofs.names.names_of_commands.Given as goal

abbrev pub invariant-loop-command : goal.invariant-loop-command
invariant-loop-command l = map (λ k. k.now) l.names ≡ map (λ x. x.name) (take l.command-index l.commands)
