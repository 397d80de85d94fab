use Rattle.qm_history.proofs.TextLaws.{first-told, history-right}
use Rattle.qm_history.proofs.laws.each_refusal_is_the_first.Goals as goal

pub returns-clause-one : goal.returns-clause-one
returns-clause-one c = first-told

pub returns-clause-none : goal.returns-clause-none
returns-clause-none c = history-right
