use Rattle.std.proofs.Common.{◌≡◌, ◌++◌, map, take}
use Rattle.qapi_number.proofs.types.add_names.Given as goal

abbrev pub invariant-loop-name : goal.invariant-loop-name
invariant-loop-name l = map (λ k. k.now) l.names ≡ map (λ k. k.now) l.initial.names ++ map (λ k. k.now) (take l.name-index l.more)
