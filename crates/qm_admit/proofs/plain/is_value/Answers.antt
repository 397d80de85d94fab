use Rattle.std.proofs.Common.{◌∙◌, ap, is_some, bytes_eq}
use Rattle.qapi_types.specs.Types.{kind_of, value_names}
use Rattle.qm_admit.proofs.Positions.{is_some-position}
use Rattle.qm_admit.proofs.plain.is_value.Goals as goal

pub returns : goal.returns
returns c = c.is_some.ensures ∙ ap is_some c.find_value.ensures ∙ is_some-position (bytes_eq c.args.text.now) (value_names (kind_of c.args.schema.now.kinds c.args.type_id))
