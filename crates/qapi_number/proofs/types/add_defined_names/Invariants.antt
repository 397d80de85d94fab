use Rattle.std.proofs.Common.{◌≡◌, ◌++◌, map, take}
use Rattle.qapi_number.proofs.types.add_defined_names.Given as goal

abbrev pub invariant-loop-definition : goal.invariant-loop-definition
invariant-loop-definition l = map (λ k. k.now) l.names ≡ map (λ k. k.now) l.initial.names ++ map (λ d. d.name) (map (λ t. t.now) (take l.definition-index l.types))
