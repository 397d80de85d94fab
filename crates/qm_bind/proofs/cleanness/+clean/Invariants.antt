use Rattle.std.proofs.Common.{◌≡◌, true, take}
use Rattle.std.specs.List.{list_all}
use Rattle.qm_json.specs.Cleanness.{is_clean, is_clean_member}
use Rattle.qm_bind.proofs.cleanness.+clean.Given as goal

abbrev pub invariant-are_clean-loop-item : goal.invariant-are_clean-loop-item
invariant-are_clean-loop-item l = list_all is_clean (take l.item-index l.items) ≡ true

abbrev pub invariant-are_clean_members-loop-member : goal.invariant-are_clean_members-loop-member
invariant-are_clean_members-loop-member l = list_all is_clean_member (take l.member-index l.members) ≡ true
