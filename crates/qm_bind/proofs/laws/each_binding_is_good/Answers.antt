use Rattle.qm_bind.proofs.GoodLaws.{bound_good}
use Rattle.qm_bind.proofs.laws.each_binding_is_good.Goals as goal

pub returns : goal.returns
returns c = λ p text binding e. bound_good p text binding e
