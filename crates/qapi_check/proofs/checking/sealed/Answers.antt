use Rattle.std.proofs.Common.{rules}
use Rattle.qapi_check.proofs.GoodLaws.{sealed-good}
use Rattle.qapi_check.proofs.checking.sealed.Goals as goal

pub seal-requires : goal.seal-requires
seal-requires c = sealed-good c.args.definitions.now c.in_ok-parts.parts c.in_ok-fault.field-0 c.in_ok-parts.ensures c.requires.early c.in_ok-fault.ensures (search rules) (c.is_counted.ensures.0 (search rules))
