use Rattle.std.proofs.Common.{◌≡◌, map, take}
use Rattle.qapi_rules.specs.Meanings.{names_of}
use Rattle.qapi_rules.proofs.table.names.Given as goal

abbrev pub invariant-loop-definition : goal.invariant-loop-definition
invariant-loop-definition l = map (λ k. k.now) l.names ≡ names_of (take l.definition-index l.definitions)
