use Rattle.std.proofs.Common.{◌≡◌, take}
use Rattle.std.specs.List.{filter_map}
use Rattle.qm_plan.specs.Templates.{filled, filled_member}
use Rattle.qm_plan.proofs.filling.+fill.Given as goal

abbrev pub invariant-fill_items-loop-item : goal.invariant-fill_items-loop-item
invariant-fill_items-loop-item l = l.left ≡ filter_map (filled l.arguments) (take l.item-index l.items)

abbrev pub invariant-fill_members-loop-member : goal.invariant-fill_members-loop-member
invariant-fill_members-loop-member l = l.left ≡ filter_map (filled_member l.arguments) (take l.member-index l.members)
