use Rattle.qm_core.proofs.JournalLaws.{at-most-once}
use Rattle.qm_core.proofs.laws.each_other_session_at_most_once.Goals as goal

pub returns : goal.returns
returns c = at-most-once
