use Rattle.std.proofs.Common.{◌≡◌, drop}
use Rattle.qm_json.specs.Cleanness.{are_distinct}
use Rattle.qm_bind.specs.Faults.{member_names}
use Rattle.qm_bind.proofs.named.distinct_members.Given as goal

abbrev pub invariant-loop-i : goal.invariant-loop-i
invariant-loop-i l = are_distinct (member_names l.members) ≡ are_distinct (member_names (drop l.i l.members))
