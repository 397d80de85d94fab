use Rattle.std.proofs.Common.{take}
use Rattle.qapi_types.specs.Sets.{HasNames}
use Rattle.qm_bind.specs.Faults.{member_names}
use Rattle.qm_bind.proofs.names.names_of_members.Given as goal

abbrev pub invariant-loop-member : goal.invariant-loop-member
invariant-loop-member l = HasNames l.set (member_names (take l.member-index l.members))
