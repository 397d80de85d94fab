use Rattle.std.proofs.Common.{◌≡◌, map, take}
use Rattle.qapi_types.specs.{Types.branches_of, declared.kind.Branch.Branch}
use Rattle.qapi_types.proofs.graph.row.Given as goal

abbrev pub invariant-loop-branch : goal.invariant-loop-branch
invariant-loop-branch l = l.row ≡ map (λ (b : Branch). b.type_id) (take l.branch-index (branches_of l.kind))
