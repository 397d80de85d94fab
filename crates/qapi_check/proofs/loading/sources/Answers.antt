use Rattle.std.proofs.Common.{rules}
use Rattle.qapi_check.proofs.FromLaws.{without_main}
use Rattle.qapi_check.proofs.loading.sources.Goals as goal

pub returns-in-None-clause-given : goal.returns-in-None-clause-given
returns-in-None-clause-given g c = without_main _ _ _ (search rules) (search rules)
