use Rattle.qapi_rules.proofs.Gathered.{gathered}
use Rattle.qapi_rules.proofs.clashes.gather.Goals as goal

pub returns : goal.returns
returns c = gathered _ _ _ _ _ c.in_ok-is_new.ensures c.unless_new.ensures
