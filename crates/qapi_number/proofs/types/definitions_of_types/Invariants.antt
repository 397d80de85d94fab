use Rattle.std.proofs.Common.{◌≡◌, map, take}
use Rattle.qapi_number.specs.TypeNames.{types_of}
use Rattle.qapi_number.proofs.types.definitions_of_types.Given as goal

abbrev pub invariant-loop-definition : goal.invariant-loop-definition
invariant-loop-definition l = map (λ k. k.now) l.types ≡ types_of (take l.definition-index l.definitions)
