use Rattle.qm_core.proofs.JournalLaws.{no-error, no-change}
use Rattle.qm_core.proofs.laws.refused_out_of_band_changes_nothing.Goals as goal

pub returns-clause-error : goal.returns-clause-error
returns-clause-error c = no-error

pub returns-clause-store : goal.returns-clause-store
returns-clause-store c = no-change
