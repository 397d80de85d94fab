use Rattle.qm_admit.proofs.FitLaws.{fits-if_none, none-if_fits}
use Rattle.qm_admit.proofs.laws.a_value_without_misfit_fits.Goals as goal

pub returns-clause-clean : goal.returns-clause-clean
returns-clause-clean c = λ p good t v clean. (fits-if_none p good t v clean, none-if_fits p good t v)

pub returns-clause-any : goal.returns-clause-any
returns-clause-any c = none-if_fits
