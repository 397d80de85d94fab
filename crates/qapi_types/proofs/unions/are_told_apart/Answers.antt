use Rattle.std.proofs.Common.{arith}
use Rattle.qapi_types.proofs.PairLaws.{kinds_more, kinds_all}
use Rattle.qapi_types.proofs.unions.are_told_apart.Goals as goal

pub loop-i-preserved : goal.loop-i-preserved
loop-i-preserved c = kinds_more c.args.kinds.now c.args.types.now c.loop-i.i 0 (omega arith) c.loop-i.invariant (c.is_new_kind.ensures.0 c.if-not-is_new_kind.false)

pub returns : goal.returns
returns c = kinds_all c.args.kinds.now c.args.types.now c.loop-i.i (omega (arith, c.loop-i-test.false)) c.loop-i.invariant
