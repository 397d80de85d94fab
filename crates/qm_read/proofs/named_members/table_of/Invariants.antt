use Rattle.std.proofs.Common.{take, Some}
use Rattle.qm_read.specs.Names.{AreNamesOf}
use Rattle.qm_read.proofs.named_members.table_of.Given as goal

abbrev pub invariant-loop-member : goal.invariant-loop-member
invariant-loop-member l = AreNamesOf (Some l.names) (take l.member-index l.members)
