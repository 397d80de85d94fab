use Rattle.qm_history.proofs.{EntryLines.whole-told, LegalTexts.legal-told}
use Rattle.qm_history.proofs.laws.each_journal_is_told_by_its_text.Goals as goal

pub returns-clause-any : goal.returns-clause-any
returns-clause-any c = whole-told

pub returns-clause-legal : goal.returns-clause-legal
returns-clause-legal c = legal-told
