use Rattle.std.proofs.Common.{rules}
use Rattle.qapi_mask.proofs.TableLaws.{variants-told}
use Rattle.qapi_mask.proofs.references.variant_types.Goals as goal

pub returns : goal.returns
returns c = (search (rules, variants-told))
