use Rattle.std.proofs.Common.{◌≡◌, drop}
use Rattle.qapi_rules.specs.References.{unknown_in_members}
use Rattle.qapi_rules.proofs.references.unknown_in_members.Given as goal

abbrev pub invariant-loop-member : goal.invariant-loop-member
invariant-loop-member l = unknown_in_members l.table (drop l.member-index l.members) ≡ unknown_in_members l.table l.members
