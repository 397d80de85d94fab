use Rattle.std.proofs.Common.{[], ◌∷◌, ◌++◌, arith, take, ap, ◌∙◌}
use Rattle.qapi_types.specs.declared.kind.MemberDef.{MemberDef}
use Rattle.qapi_number.specs.Kinds.{member_def}
use Rattle.qapi_number.proofs.EnumerateLaws.{mapped_after, take_item}
use Rattle.qapi_number.proofs.members.add_members.Goals as goal

pub loop-member-preserved : goal.loop-member-preserved
loop-member-preserved c = mapped_after (member_def c.args.numbering.now) c.args.list.now (take c.loop-member.member-index c.args.members.now) _ c.member-item.result _ _ (take_item c.args.members.now c.loop-member.member-index c.member-item.result (omega arith) c.member-item.is) c.loop-member.invariant (c.in_ok-push.ensures.ok ∙ ap (λ (x : MemberDef). c.loop-member.list ++ x ∷ []) c.in_ok-member_def.ensures)
