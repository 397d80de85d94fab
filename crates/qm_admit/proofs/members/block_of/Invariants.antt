use Rattle.std.proofs.Common.{◌≡◌, ◌≤◌, length}
use Rattle.qapi_types.specs.Types.{kind_of, member_names}
use Rattle.qm_admit.proofs.BlockLaws.{Kept}
use Rattle.qm_admit.proofs.members.block_of.Given as goal

abbrev pub invariant-loop-i : goal.invariant-loop-i
invariant-loop-i l = (l.i ≤ length l.given) × (length l.places ≡ 256) × Kept l.given (member_names (kind_of l.schema.kinds l.type_id)) l.start l.places l.i

abbrev pub decreases-loop-i : goal.decreases-loop-i
decreases-loop-i l = l.i
