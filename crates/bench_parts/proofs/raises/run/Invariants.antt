use Rattle.std.proofs.Common.{◌≡◌, length}
use Rattle.bench_parts.proofs.raises.run.Given as goal

abbrev pub invariant-loop-call : goal.invariant-loop-call
invariant-loop-call l = length l.throttle.periods ≡ 1
