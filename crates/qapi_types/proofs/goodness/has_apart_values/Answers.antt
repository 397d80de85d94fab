use Rattle.std.proofs.Common.{map, ap, ◌∙◌, subst, rules}
use Rattle.qapi_types.specs.{Sets.IsSetOf, Types.value_names}
use Rattle.qapi_types.proofs.SetLaws.{is_set}
use Rattle.qapi_types.proofs.goodness.has_apart_values.Goals as goal

pub returns : goal.returns
returns c = is_set (value_names c.args.kind.now) c.in_ok-set.set c.is_some.result (subst (λ l. IsSetOf l c.in_ok-set.set) (ap (map (λ k. k.now)) c.as_slice.ensures ∙ c.in_ok-names.ensures) c.in_ok-set.ensures) (search rules)
