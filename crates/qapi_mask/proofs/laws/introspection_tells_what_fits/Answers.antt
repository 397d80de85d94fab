use Rattle.qapi_mask.proofs.Introduced.{fits-read, read-fits}
use Rattle.qapi_mask.proofs.Sound.{sound}
use Rattle.qapi_mask.proofs.laws.introspection_tells_what_fits.Goals as goal

pub returns : goal.returns
returns c = λ p good prelude t l v. (fits-read p (sound p good prelude) t l v, read-fits p (sound p good prelude) t l v)
