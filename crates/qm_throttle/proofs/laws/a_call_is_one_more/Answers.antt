use Rattle.qm_throttle.proofs.Calls.{stepped-more}
use Rattle.qm_throttle.proofs.laws.a_call_is_one_more.Goals as goal

pub returns : goal.returns
returns c = λ periods calls call. stepped-more periods calls call
