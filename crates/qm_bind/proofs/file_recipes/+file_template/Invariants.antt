use Rattle.std.proofs.Common.{◌≡◌, true, take}
use Rattle.std.specs.List.{list_all}
use Rattle.qm_bind.specs.Goodness.{is_file_template}
use Rattle.qm_bind.specs.Walks.{is_file_member, scope_known}
use Rattle.qm_bind.proofs.file_recipes.+file_template.Given as goal

abbrev pub invariant-are_templates-loop-item : goal.invariant-are_templates-loop-item
invariant-are_templates-loop-item l = list_all (is_file_template (scope_known l.known)) (take l.item-index l.items) ≡ true

abbrev pub invariant-are_members-loop-member : goal.invariant-are_members-loop-member
invariant-are_members-loop-member l = list_all (is_file_member (scope_known l.known)) (take l.member-index l.members) ≡ true
