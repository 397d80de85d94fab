use Rattle.qm_offline.proofs.WordLemmas.{many_refused}
use Rattle.qm_offline.proofs.words.Given.put_positional.Goals as goal

pub returns-in_default : goal.returns-in_default
returns-in_default c = many_refused _ _ _ c.in_default.len_at_least
