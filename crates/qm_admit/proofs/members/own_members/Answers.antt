use Rattle.std.proofs.Common.{◌<◌, ◌^◌, ◌∙◌, ap, sym, subst, length, List}
use Rattle.std.specs.List.{All}
use Rattle.qapi_types.specs.declared.kind.MemberDef.{MemberDef}
use Rattle.qapi_types.specs.declared.kind.Kind.TheVariants as kinds
use Rattle.qapi_types.specs.Types.{members_of}
use Rattle.qm_admit.proofs.GoodParts.{members-within}
use Rattle.qm_admit.proofs.members.own_members.Goals as goal

pub returns-clause-within : goal.returns-clause-within
returns-clause-within c = subst (All (λ (m : MemberDef). m.type_id < length c.args.schema.now.kinds)) (sym (c.members.ensures ∙ ap members_of c.kind.ensures)) (members-within c.args.schema.now c.parts-parts.ensures.good c.args.type_id c.requires)

pub returns-clause-few : goal.returns-clause-few
returns-clause-few c = subst (λ (ms : List MemberDef). length ms < 2 ^ 32) (sym (c.members.ensures ∙ ap members_of c.kind.ensures)) (c.parts-parts.ensures.good.counts.parts c.args.type_id kinds.Null c.requires).0
