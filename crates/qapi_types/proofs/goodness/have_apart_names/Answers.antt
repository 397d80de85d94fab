use Rattle.std.proofs.Common.{map, ap, ◌∙◌, subst, refl, rules}
use Rattle.qapi_types.specs.{Sets.IsSetOf, Goodness.definition_names}
use Rattle.qapi_types.proofs.SetLaws.{is_set}
use Rattle.qapi_types.proofs.goodness.have_apart_names.Goals as goal

pub returns : goal.returns
returns c = is_set (definition_names c.args.parts.now) c.in_ok-set.set c.is_some.result (subst (λ l. IsSetOf l c.in_ok-set.set) (ap (map (λ k. k.now)) c.as_slice-3.ensures ∙ c.in_ok-add_names_of_events.ensures ∙ rw (c.in_ok-names.ensures, c.as_slice.ensures, c.as_slice-2.ensures) refl) c.in_ok-set.ensures) (search rules)
