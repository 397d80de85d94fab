use Rattle.qapi_rules.proofs.CycleLaws.{on_cycle-decides}
use Rattle.qapi_rules.proofs.cycles.on_a_cycle_is_a_chain_that_comes_back.Goals as goal

pub returns : goal.returns
returns c = on_cycle-decides
