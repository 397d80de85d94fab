use Rattle.std.proofs.Common.{◌≡◌, map, take}
use Rattle.qapi_types.specs.Types.{values_of}
use Rattle.qapi_types.proofs.names.names_of_values.Given as goal

abbrev pub invariant-loop-value : goal.invariant-loop-value
invariant-loop-value l = map (λ k. k.now) l.names ≡ map (λ x. x.name) (take l.value-index (values_of l.kind))
