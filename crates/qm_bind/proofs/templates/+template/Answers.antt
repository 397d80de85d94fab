use Rattle.std.proofs.Common.{◌≡◌, ◌∙◌, sym, ap, subst, IfOk, Option, Some, arith}
use Rattle.qm_plan.specs.declared.templates.Template.{Template}
use Rattle.qm_json.specs.declared.value.Json.TheVariants as json
use Rattle.qm_bind.specs.Grammar.{template_of}
use Rattle.qm_bind.specs.Walks.{member_template, scope_in}
use Rattle.qm_bind.proofs.Eaches.{each_map_more, each_map_none, none_if_not}
use Rattle.qm_bind.proofs.Layers.{template-object, template-other}
use Rattle.qm_bind.proofs.templates.+template.Goals as goal

pub item_list-returns-in_default : goal.item_list-returns-in_default
item_list-returns-in_default t c = sym (each_map_none (template_of (scope_in c.args.names.now)) c.args.items.now c.loop-item.item-index c.item-item.result (omega arith) c.item-item.is (sym c.in_ok-next.ensures ∙ none_if_not c.in_ok-next.field-0 c.in_default.not-Some))

pub item_list-loop-item-preserved : goal.item_list-loop-item-preserved
item_list-loop-item-preserved t c = each_map_more (template_of (scope_in c.args.names.now)) c.args.items.now c.loop-item.item-index c.item-item.result c.loop-item.made c.in-Some.next (omega arith) c.item-item.is (sym c.in_ok-next.ensures ∙ c.in-Some.is) c.loop-item.invariant ∙ ap Some (sym c.in_ok-push.ensures.ok)

pub member_list-returns-in_default : goal.member_list-returns-in_default
member_list-returns-in_default t c = sym (each_map_none (member_template (scope_in c.args.names.now)) c.args.members.now c.loop-member.member-index c.member-item.result (omega arith) c.member-item.is (sym c.in_ok-next.ensures ∙ none_if_not c.in_ok-next.field-0 c.in_default.not-Some))

pub member_list-loop-member-preserved : goal.member_list-loop-member-preserved
member_list-loop-member-preserved t c = each_map_more (member_template (scope_in c.args.names.now)) c.args.members.now c.loop-member.member-index c.member-item.result c.loop-member.made c.in-Some.next (omega arith) c.member-item.is (sym c.in_ok-next.ensures ∙ c.in-Some.is) c.loop-member.invariant ∙ ap Some (sym c.in_ok-push.ensures.ok)

pub template-returns-in-Obj : goal.template-returns-in-Obj
template-returns-in-Obj t c = subst (λ (o : Option Template). IfOk c.template_among.result (λ made. made ≡ o)) (sym (template-object (scope_in c.args.names.now) c.args.value.now c.as_slice.result.now (c.in-Obj.is ∙ ap json.Obj (sym c.as_slice.ensures)))) c.template_among.ensures

pub template-returns-in_default : goal.template-returns-in_default
template-returns-in_default t c = sym (template-other (scope_in c.args.names.now) c.args.value.now c.in_default.not-Obj)
