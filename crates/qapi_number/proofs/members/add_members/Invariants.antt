use Rattle.std.proofs.Common.{◌≡◌, ◌++◌, take}
use Rattle.qapi_number.specs.Kinds.{member_defs}
use Rattle.qapi_number.proofs.members.add_members.Given as goal

abbrev pub invariant-loop-member : goal.invariant-loop-member
invariant-loop-member l = l.list ≡ l.initial.list ++ member_defs l.numbering (take l.member-index l.members)
