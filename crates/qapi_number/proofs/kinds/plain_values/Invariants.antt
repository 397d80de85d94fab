use Rattle.std.proofs.Common.{◌≡◌, [], map, take}
use Rattle.qapi_number.specs.Kinds.{value_def}
use Rattle.qapi_number.proofs.kinds.plain_values.Given as goal

abbrev pub invariant-loop-name : goal.invariant-loop-name
invariant-loop-name l = l.values ≡ map (λ name. value_def name []) (map (λ k. k.now) (take l.name-index l.names))
