use Rattle.std.proofs.Common.{◌≡◌, map, take}
use Rattle.qapi_number.proofs.unions.names_of_values.Given as goal

abbrev pub invariant-loop-value : goal.invariant-loop-value
invariant-loop-value l = map (λ k. k.now) l.names ≡ map (λ v. v.name) (take l.value-index l.values)
