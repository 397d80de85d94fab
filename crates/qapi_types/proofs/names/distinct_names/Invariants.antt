use Rattle.std.proofs.Common.{map, take}
use Rattle.qapi_types.proofs.SetLaws.{Gathers}
use Rattle.qapi_types.proofs.names.distinct_names.Given as goal

abbrev pub invariant-loop-name : goal.invariant-loop-name
invariant-loop-name l = Gathers l.set (map (λ k. k.now) (take l.name-index l.names))
