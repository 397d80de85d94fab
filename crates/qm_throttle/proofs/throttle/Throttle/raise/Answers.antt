use Rattle.std.proofs.lemmas.Result.{IfOk-weaker}
use Rattle.qm_throttle.proofs.Calls.{steps_from}
use Rattle.qm_throttle.proofs.throttle.Throttle.raise.Goals as goal

pub returns-clause-ok : goal.returns-clause-ok
returns-clause-ok c = IfOk-weaker c.raise_in.result _ _ (λ sent d. steps_from _ _ _ _ d) c.raise_in.ensures.ok
