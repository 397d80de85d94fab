use Rattle.std.proofs.Common.{◌≡◌, take}
use Rattle.qm_json.proofs.equality.+same.Given as goal

abbrev pub invariant-same_items-loop-i : goal.invariant-same_items-loop-i
invariant-same_items-loop-i l = take l.i l.items ≡ take l.i l.others

abbrev pub invariant-same_members-loop-i : goal.invariant-same_members-loop-i
invariant-same_members-loop-i l = take l.i l.members ≡ take l.i l.others
