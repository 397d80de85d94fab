use Rattle.std.proofs.Common.{rules}
use Rattle.qm_offline.proofs.Refusing.{bound_alone, bound_nothing}
use Rattle.qm_offline.proofs.loading.over_schema.Goals as goal

pub returns-in_default-clause-given : goal.returns-in_default-clause-given
returns-in_default-clause-given g c = bound_alone _ c.args.words.now c.args.schema c.unbound.result (search rules) c.unbound.ensures.value

pub returns-in-Err-clause-given : goal.returns-in-Err-clause-given
returns-in-Err-clause-given g c = bound_nothing _ _ _ _ (λ is. is)
