use Rattle.std.proofs.Common.{◌∙◌, sym, ap, Some, arith}
use Rattle.qm_bind.specs.{Recipes.act_of, Walks.scope_in}
use Rattle.qm_bind.proofs.Eaches.{each_map_more, each_map_none, none_if_not}
use Rattle.qm_bind.proofs.acts.act_list.Goals as goal

pub returns-in_default : goal.returns-in_default
returns-in_default c = sym (each_map_none (act_of (scope_in c.args.names.now)) c.args.items.now c.loop-item.item-index c.item-item.result (omega arith) c.item-item.is (sym c.in_ok-next.ensures ∙ none_if_not c.in_ok-next.field-0 c.in_default.not-Some))

pub loop-item-preserved : goal.loop-item-preserved
loop-item-preserved c = each_map_more (act_of (scope_in c.args.names.now)) c.args.items.now c.loop-item.item-index c.item-item.result c.loop-item.made c.in-Some.next (omega arith) c.item-item.is (sym c.in_ok-next.ensures ∙ c.in-Some.is) c.loop-item.invariant ∙ ap Some (sym c.in_ok-push.ensures.ok)
