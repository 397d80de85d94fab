use Rattle.qapi_mask.proofs.CleanArray.{array-clean}
use Rattle.qapi_mask.proofs.Sound.{sound}
use Rattle.qapi_mask.proofs.laws.introspection_is_clean.Goals as goal

pub returns : goal.returns
returns c = λ p good prelude texts. array-clean p (sound p good prelude) texts
