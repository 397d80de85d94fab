use Rattle.std.proofs.Common.{arith}
use Rattle.qapi_types.proofs.FaultLaws.{bad_cycle, bad_clash, good_types}
use Rattle.qapi_types.proofs.choices.choices_are_good.Goals as goal
use Rattle.qapi_types.proofs.choices.choices_are_good.Goals.{then-faults-via-then-faults, then-faults-via-else-faults+then-faults-2}

pub returns-then-faults : goal.returns-then-faults
returns-then-faults c = elim c.then-faults.branch [
  | then-faults-via-then-faults w ↦ bad_cycle c.args.kinds.now c.loop-number.number c.in_ok-faults.faults (omega arith) c.in_ok-faults.ensures w.if-faults.true
  | then-faults-via-else-faults+then-faults-2 w ↦ bad_clash c.args.kinds.now c.loop-number.number c.in_ok-faults.faults (omega arith) c.in_ok-faults.ensures w.if-faults-2.true
]

pub returns : goal.returns
returns c = good_types c.args.kinds.now c.loop-number.number c.requires (omega (arith, c.loop-number-test.false)) c.loop-number.invariant
