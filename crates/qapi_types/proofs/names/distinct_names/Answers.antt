use Rattle.std.proofs.Common.{arith, rules}
use Rattle.qapi_types.proofs.SetLaws.{gathers_more, gathered_twice, gathered_all}
use Rattle.qapi_types.proofs.names.distinct_names.Goals as goal

pub returns-then-not-branch : goal.returns-then-not-branch
returns-then-not-branch c = gathered_twice (λ k. k.now) c.loop-name.set c.add.new.self c.args.names.now c.loop-name.name-index _ c.in_ok-add.field-0 (omega arith) c.loop-name.invariant c.in_ok-add.ensures (search rules)

pub loop-name-preserved : goal.loop-name-preserved
loop-name-preserved c = gathers_more (λ k. k.now) c.loop-name.set c.add.new.self c.args.names.now c.loop-name.name-index _ c.in_ok-add.field-0 (omega arith) c.loop-name.invariant c.in_ok-add.ensures (search rules)

pub returns : goal.returns
returns c = gathered_all (λ k. k.now) c.loop-name.set c.args.names.now c.loop-name.name-index (omega (arith, c.loop-name-test.false)) c.loop-name.invariant
