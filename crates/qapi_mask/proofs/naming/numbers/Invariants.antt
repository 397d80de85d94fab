use Rattle.std.proofs.Common.{◌≤◌, length}
use Rattle.std.specs.Prelude.{◌==◌}
use Rattle.qapi_mask.specs.Tables.{Tells}
use Rattle.qapi_mask.proofs.TableLaws.{first_from}
use Rattle.qapi_mask.proofs.naming.numbers.Given as goal

abbrev pub decreases-loop-left : goal.decreases-loop-left
decreases-loop-left l = l.left

abbrev pub invariant-loop-left : goal.invariant-loop-left
invariant-loop-left l = (l.left ≤ length l.numbered) × Tells (first_from (λ t u. u == t) l.numbered l.left) l.count l.numbers.items
