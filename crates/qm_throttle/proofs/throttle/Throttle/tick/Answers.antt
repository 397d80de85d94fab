use Rattle.std.proofs.lemmas.Result.{IfOk-weaker}
use Rattle.qm_throttle.proofs.Calls.{steps_from}
use Rattle.qm_throttle.proofs.throttle.Throttle.tick.Goals as goal

pub returns-clause-ok : goal.returns-clause-ok
returns-clause-ok c = IfOk-weaker c.tick_all.result _ _ (λ sent d. steps_from _ _ _ _ d) c.tick_all.ensures.ok
