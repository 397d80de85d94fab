use Rattle.std.proofs.Common.{◌≡◌, map, take}
use Rattle.qapi_number.specs.Kinds.{base_number}
use Rattle.qapi_number.proofs.lines.bases_among.Given as goal

abbrev pub invariant-loop-definition : goal.invariant-loop-definition
invariant-loop-definition l = l.bases ≡ map (base_number l.types) (map (λ k. k.now) (take l.definition-index l.definitions))
