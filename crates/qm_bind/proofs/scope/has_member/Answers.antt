use Rattle.std.proofs.Common.{◌∙◌, ap, is_some, bytes_eq}
use Rattle.qapi_types.specs.Types.{kind_of, member_names}
use Rattle.qm_bind.proofs.NameLaws.{is_some-position}
use Rattle.qm_bind.proofs.scope.has_member.Goals as goal

pub returns-then-type_id-types : goal.returns-then-type_id-types
returns-then-type_id-types c = c.is_some.ensures ∙ ap is_some c.find_member.ensures ∙ is_some-position (bytes_eq c.args.name.now) (member_names (kind_of c.args.schema.now.kinds c.args.type_id))
