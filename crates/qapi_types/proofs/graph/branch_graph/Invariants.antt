use Rattle.std.proofs.Common.{◌≡◌, map, take}
use Rattle.qapi_types.specs.Types.{branch_types}
use Rattle.qapi_types.proofs.graph.branch_graph.Given as goal

abbrev pub invariant-loop-kind : goal.invariant-loop-kind
invariant-loop-kind l = l.graph.items ≡ map branch_types (take l.kind-index l.kinds)
