use Rattle.std.proofs.Common.{◌≡◌, Some, map, take}
use Rattle.qm_bind.specs.Grammar.{each_of, template_of}
use Rattle.qm_bind.specs.Walks.{member_template, scope_in}
use Rattle.qm_bind.proofs.templates.+template.Given as goal

abbrev pub invariant-item_list-loop-item : goal.invariant-item_list-loop-item
invariant-item_list-loop-item l = each_of (map (template_of (scope_in l.names)) (take l.item-index l.items)) ≡ Some l.made

abbrev pub invariant-member_list-loop-member : goal.invariant-member_list-loop-member
invariant-member_list-loop-member l = each_of (map (member_template (scope_in l.names)) (take l.member-index l.members)) ≡ Some l.made
