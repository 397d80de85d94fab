use Rattle.std.proofs.Common.{◌≡◌, take}
use Rattle.qm_throttle.proofs.throttle.copy_periods.Given as goal

abbrev pub invariant-loop-period : goal.invariant-loop-period
invariant-loop-period l = l.copied ≡ take l.period-index l.period-items
