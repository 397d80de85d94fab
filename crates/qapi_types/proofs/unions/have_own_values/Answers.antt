use Rattle.std.proofs.Common.{arith, rules}
use Rattle.qapi_types.proofs.PairLaws.{Differ, values_none, values_more, value_twice, pairs_all}
use Rattle.qapi_types.proofs.unions.have_own_values.Goals as goal

pub loop-branch-init : goal.loop-branch-init
loop-branch-init c = values_none c.new-values.result c.new-values.ensures.empty

pub returns-in-Ok-false : goal.returns-in-Ok-false
returns-in-Ok-false c = value_twice c.loop-branch.values c.args.branches.now c.loop-branch.branch-index _ c.in-Ok-false.field-0 (omega arith) c.loop-branch.invariant (search rules) c.in-Ok-false.ensures.added

pub loop-branch-preserved : goal.loop-branch-preserved
loop-branch-preserved c = values_more c.loop-branch.values c.insert.new.self c.args.branches.now c.loop-branch.branch-index _ c.in-Ok-true.field-0 (omega arith) c.loop-branch.invariant (search rules) c.in-Ok-true.ensures.added c.in-Ok-true.ensures.updates

pub returns : goal.returns
returns c = pairs_all Differ c.args.branches.now c.loop-branch.branch-index (omega (arith, c.loop-branch-test.false)) c.loop-branch.invariant.differ
