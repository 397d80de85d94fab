use Rattle.std.proofs.Common.{◌≡◌, length}
use Rattle.bench_parts.proofs.raises.opened.Given as goal

abbrev pub invariant-loop-port : goal.invariant-loop-port
invariant-loop-port l = length l.throttle.periods ≡ 1
