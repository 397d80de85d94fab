use Rattle.std.proofs.Common.{◌≤◌, length}
use Rattle.qapi_mask.specs.Tables.{Tells}
use Rattle.qapi_mask.proofs.TableLaws.{types_from}
use Rattle.qapi_mask.proofs.references.branch_types.Given as goal

abbrev pub decreases-loop-left : goal.decreases-loop-left
decreases-loop-left l = l.left

abbrev pub invariant-loop-left : goal.invariant-loop-left
invariant-loop-left l = (l.left ≤ length l.branches) × Tells (types_from l.branches l.empty l.left) l.count l.types.items
