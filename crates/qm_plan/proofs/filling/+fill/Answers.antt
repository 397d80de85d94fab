use Rattle.std.proofs.Common.{Some, ap, sym, ◌∙◌, List}
use Rattle.std.specs.List.{filter_map}
use Rattle.qm_plan.specs.Templates.{filled, filled_member}
use Rattle.qm_plan.specs.declared.templates.{Template.Template, TemplateMember.TemplateMember}
use Rattle.qm_plan.specs.declared.templates.Template.TheVariants as template
use Rattle.qm_plan.proofs.FillLaws.{filled-Object, filled-Array}
use Rattle.qm_plan.proofs.Gathering.{gathers_next}
use Rattle.qm_plan.proofs.filling.+fill.Goals as goal

pub fill-returns-in_ok-members-in-Object : goal.fill-returns-in_ok-members-in-Object
fill-returns-in_ok-members-in-Object n c =
    ap (λ (l : List TemplateMember). Some (template.Object l)) (c.in_ok-members-in-Object.ensures ∙ ap (filter_map (filled_member c.args.arguments.now)) c.as_slice.ensures) ∙ sym (ap (filled c.args.arguments.now) c.in-Object.is ∙ filled-Object c.args.arguments.now _)

pub fill-returns-in_ok-items-in-Array : goal.fill-returns-in_ok-items-in-Array
fill-returns-in_ok-items-in-Array n c =
    ap (λ (l : List Template). Some (template.Array l)) (c.in_ok-items-in-Array.ensures ∙ ap (filter_map (filled c.args.arguments.now)) c.as_slice-in-Array.ensures) ∙ sym (ap (filled c.args.arguments.now) c.in-Array.is ∙ filled-Array c.args.arguments.now _)

pub fill_items-loop-item-preserved : goal.fill_items-loop-item-preserved
fill_items-loop-item-preserved n c = gathers_next (filled c.args.arguments.now) c.args.items.now c.loop-item.item-index c.item-item.result c.in_ok-next.next c.loop-item.left c.push_some.new.list c.loop-item-test.true c.item-item.is c.in_ok-next.ensures c.loop-item.invariant c.in_ok-push_some.ensures

pub fill_members-loop-member-preserved : goal.fill_members-loop-member-preserved
fill_members-loop-member-preserved n c = gathers_next (filled_member c.args.arguments.now) c.args.members.now c.loop-member.member-index c.member-item.result c.in_ok-next.next c.loop-member.left c.push_some.new.list c.loop-member-test.true c.member-item.is c.in_ok-next.ensures c.loop-member.invariant c.in_ok-push_some.ensures
