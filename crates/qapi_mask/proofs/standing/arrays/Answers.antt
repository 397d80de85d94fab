use Rattle.std.proofs.Common.{rules}
use Rattle.qapi_mask.proofs.StandingLaws.{element-below, base-below, fill-array, skip-array}
use Rattle.qapi_mask.proofs.standing.arrays.Goals as goal

pub index_mut-requires : goal.index_mut-requires
index_mut-requires c = (search (rules, element-below, base-below))

pub loop-left-preserved-in-Some : goal.loop-left-preserved-in-Some
loop-left-preserved-in-Some c =
    (search rules, fill-array c.args.kinds.now _ c.loop-left.left _ c.in-Some.element _ (search rules) (search rules) (search rules) (search rules) c.loop-left.invariant.1)

pub loop-left-preserved : goal.loop-left-preserved
loop-left-preserved c =
    (search rules, skip-array c.args.kinds.now _ c.loop-left.left _ (search rules) (search rules) (search rules) c.loop-left.invariant.1)
