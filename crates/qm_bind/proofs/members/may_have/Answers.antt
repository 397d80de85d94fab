use Rattle.std.proofs.Common.{◌∙◌, ap, ℕ}
use Rattle.qm_bind.specs.Arguments.{may_have, may_have_within}
use Rattle.qm_bind.proofs.members.may_have.Goals as goal

pub returns : goal.returns
unfolding may_have
returns c = c.has_within.ensures ∙ ap (λ (n : ℕ). may_have_within c.args.schema.now.kinds c.args.name.now n c.args.type_id) c.types.ensures
