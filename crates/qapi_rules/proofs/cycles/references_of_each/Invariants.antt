use Rattle.std.proofs.Common.{◌≡◌, map, take}
use Rattle.qapi_rules.specs.Cycles.{references_of}
use Rattle.qapi_rules.proofs.cycles.references_of_each.Given as goal

abbrev pub invariant-loop-definition : goal.invariant-loop-definition
invariant-loop-definition l = l.graph.items ≡ map (references_of l.table) (take l.definition-index l.definitions)
