use Rattle.std.proofs.Common.{rules}
use Rattle.qapi_mask.proofs.BuildLaws.{numbered-more}
use Rattle.qapi_mask.proofs.naming.numbered.Goals as goal

pub loop-number-preserved : goal.loop-number-preserved
loop-number-preserved c =
    (numbered-more c.args.kinds.now c.args.listed.now _ _ c.loop-number.number-index c.inner.result (search rules) (search rules) c.loop-number.invariant.0 c.in_ok-add_numbered.ensures.found, c.in_ok-add_numbered.ensures.marks)
