use Rattle.std.proofs.Common.{arith}
use Rattle.qapi_types.specs.Goodness.{HasBranches}
use Rattle.qapi_types.proofs.PairLaws.{refuted, one_more, looked}
use Rattle.qapi_types.proofs.unions.have_branches.Goals as goal

pub returns-then-not-branch : goal.returns-then-not-branch
returns-then-not-branch c = refuted (HasBranches c.args.kinds.now) c.args.kinds.now c.loop-kind.kind-index c.kind-item.result _ c.in_ok-has_branches.field-0 (omega arith) c.kind-item.is c.in_ok-has_branches.ensures c.if-not-branch.true

pub loop-kind-preserved : goal.loop-kind-preserved
loop-kind-preserved c = one_more (HasBranches c.args.kinds.now) c.args.kinds.now c.loop-kind.kind-index c.kind-item.result _ c.in_ok-has_branches.field-0 (omega arith) c.kind-item.is c.in_ok-has_branches.ensures c.if-not-branch.false c.loop-kind.invariant

pub returns : goal.returns
returns c = looked (HasBranches c.args.kinds.now) c.args.kinds.now c.loop-kind.kind-index (omega (arith, c.loop-kind-test.false)) c.loop-kind.invariant
