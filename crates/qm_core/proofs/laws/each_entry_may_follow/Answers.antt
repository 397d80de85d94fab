use Rattle.qm_core.proofs.Journals.{answer_at, legal_at}
use Rattle.qm_core.proofs.laws.each_entry_may_follow.Goals as goal

pub returns-clause-may : goal.returns-clause-may
returns-clause-may c = legal_at

pub returns-clause-answer : goal.returns-clause-answer
returns-clause-answer c = answer_at
