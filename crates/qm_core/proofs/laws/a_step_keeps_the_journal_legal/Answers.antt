use Rattle.qm_core.proofs.StepLaws.{next_legal}
use Rattle.qm_core.proofs.laws.a_step_keeps_the_journal_legal.Goals as goal

pub returns : goal.returns
returns c = next_legal
