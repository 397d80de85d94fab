use Rattle.std.proofs.Common.{take}
use Rattle.std.specs.List.{All}
use Rattle.qapi_types.specs.Goodness.{HasBranches}
use Rattle.qapi_types.proofs.unions.have_branches.Given as goal

abbrev pub invariant-loop-kind : goal.invariant-loop-kind
invariant-loop-kind l = All (HasBranches l.kinds) (take l.kind-index l.kinds)
