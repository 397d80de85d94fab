use Rattle.std.proofs.Common.{rules}
use Rattle.qm_offline.proofs.Refusing.{words_from}
use Rattle.qm_offline.proofs.loading.load.Goals as goal

pub returns-in-None-clause-given : goal.returns-in-None-clause-given
returns-in-None-clause-given g c = words_from _ _ (search rules)
