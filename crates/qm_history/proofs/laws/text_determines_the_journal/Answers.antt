use Rattle.qm_history.proofs.JournalTexts.{text-told}
use Rattle.qm_history.proofs.laws.text_determines_the_journal.Goals as goal

pub returns : goal.returns
returns c = text-told
