use Rattle.std.proofs.Common.{sym, ◌∙◌}
use Rattle.std.specs.Str.{bytes_eq}
use Rattle.qapi_types.specs.declared.kind.MemberDef.{MemberDef}
use Rattle.qapi_types.proofs.TableLaws.{position-map}
use Rattle.qapi_number.proofs.unions.position_of.Goals as goal

pub returns : goal.returns
returns c = c.position_among.ensures ∙ sym (position-map (λ (m : MemberDef). m.name) (bytes_eq c.args.name.now) c.args.members.now)
