use Rattle.std.proofs.Common.{◌≡◌, true, take}
use Rattle.std.specs.List.{list_all}
use Rattle.qm_plan.specs.Cleanness.{is_clean_member, is_clean_template}
use Rattle.qm_bind.proofs.cleanness.+clean_template.Given as goal

abbrev pub invariant-are_clean_templates-loop-item : goal.invariant-are_clean_templates-loop-item
invariant-are_clean_templates-loop-item l = list_all is_clean_template (take l.item-index l.items) ≡ true

abbrev pub invariant-are_clean_named-loop-member : goal.invariant-are_clean_named-loop-member
invariant-are_clean_named-loop-member l = list_all is_clean_member (take l.member-index l.members) ≡ true
