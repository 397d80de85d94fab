use Rattle.qm_read.proofs.Results.{value-clean}
use Rattle.qm_read.proofs.reading.each_value_is_clean.Goals as goal

pub returns : goal.returns
returns c = λ text value e. value-clean text value e
