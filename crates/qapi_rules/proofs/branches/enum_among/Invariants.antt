use Rattle.std.proofs.Common.{◌≡◌, drop}
use Rattle.qapi_define.specs.Saying.{first_some}
use Rattle.qapi_rules.specs.References.{enum_of_member}
use Rattle.qapi_rules.proofs.branches.enum_among.Given as goal

abbrev pub invariant-loop-member : goal.invariant-loop-member
invariant-loop-member l = first_some (enum_of_member l.table l.name) (drop l.member-index l.members) ≡ first_some (enum_of_member l.table l.name) l.members
