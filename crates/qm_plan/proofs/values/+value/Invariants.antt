use Rattle.std.proofs.Common.{◌≡◌, map, take}
use Rattle.qm_plan.specs.Stores.{committed}
use Rattle.qm_plan.specs.Templates.{value_of, value_of_member}
use Rattle.qm_plan.proofs.values.+value.Given as goal

abbrev pub invariant-values-loop-item : goal.invariant-values-loop-item
invariant-values-loop-item l = l.made ≡ map (value_of l.facts (committed l.changes l.store)) (take l.item-index l.items)

abbrev pub invariant-values_of_members-loop-member : goal.invariant-values_of_members-loop-member
invariant-values_of_members-loop-member l = l.made ≡ map (value_of_member l.facts (committed l.changes l.store)) (take l.member-index l.members)
