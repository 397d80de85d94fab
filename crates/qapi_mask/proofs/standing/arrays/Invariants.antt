use Rattle.std.proofs.Common.{◌≤◌, length}
use Rattle.qapi_mask.specs.Tables.{Tells}
use Rattle.qapi_mask.proofs.StandingLaws.{arrays_from}
use Rattle.qapi_mask.proofs.standing.arrays.Given as goal

abbrev pub decreases-loop-left : goal.decreases-loop-left
decreases-loop-left l = l.left

abbrev pub invariant-loop-left : goal.invariant-loop-left
invariant-loop-left l = (l.left ≤ length l.kinds) × Tells (arrays_from l.kinds l.left) (length l.kinds) l.arrays.items
