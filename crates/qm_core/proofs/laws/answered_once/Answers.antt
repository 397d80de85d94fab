use Rattle.qm_core.proofs.JournalLaws.{at-most, drained, admitted}
use Rattle.qm_core.proofs.laws.answered_once.Goals as goal

pub returns-clause-at_most : goal.returns-clause-at_most
returns-clause-at_most c = at-most

pub returns-clause-drained : goal.returns-clause-drained
returns-clause-drained c = drained

pub returns-clause-admitted : goal.returns-clause-admitted
returns-clause-admitted c = admitted
