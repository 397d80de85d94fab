use Rattle.std.proofs.Common.{map}
use Rattle.qapi_mask.specs.Called.{told}
use Rattle.qapi_mask.proofs.Merging.{Merges}
use Rattle.qapi_mask.proofs.calls.calls.Given as goal

abbrev pub invariant-loop-place : goal.invariant-loop-place
invariant-loop-place l = Merges l.fn.parts l.first l.second l.place (map told l.calls.items)
