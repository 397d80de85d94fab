use Rattle.std.proofs.Common.{◌≡◌, take}
use Rattle.std.specs.List.{flat_map}
use Rattle.qapi_number.specs.Kinds.{member_defs, own_members_at}
use Rattle.qapi_number.proofs.members.members_along.Given as goal

abbrev pub invariant-loop-number : goal.invariant-loop-number
invariant-loop-number l = l.list ≡ member_defs l.numbering (flat_map (own_members_at l.numbering.types) (take l.number-index l.line))
