use Rattle.std.proofs.Common.{◌≡◌, Some, map, take}
use Rattle.qm_bind.specs.{Grammar.each_of, Recipes.act_of, Walks.scope_in}
use Rattle.qm_bind.proofs.acts.act_list.Given as goal

abbrev pub invariant-loop-item : goal.invariant-loop-item
invariant-loop-item l = each_of (map (act_of (scope_in l.names)) (take l.item-index l.items)) ≡ Some l.made
