use Rattle.std.proofs.Common.{◌≡◌, map, take}
use Rattle.qapi_types.specs.declared.kind.MemberDef.{MemberDef}
use Rattle.qapi_mask.proofs.references.member_types.Given as goal

abbrev pub invariant-loop-member : goal.invariant-loop-member
invariant-loop-member l = l.types.items ≡ map (λ (m : MemberDef). m.type_id) (take l.member-index l.members)
