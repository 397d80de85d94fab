use Rattle.qapi_check.proofs.GoodLaws.{passed-good}
use Rattle.qapi_check.proofs.laws.what_passes_is_good.Goals as goal

pub returns : goal.returns
returns c = passed-good
