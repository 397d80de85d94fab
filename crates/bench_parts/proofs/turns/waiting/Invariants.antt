use Rattle.std.proofs.Common.{◌≡◌, length}
use Rattle.bench_parts.proofs.turns.waiting.Given as goal

abbrev pub invariant-loop-opened : goal.invariant-loop-opened
invariant-loop-opened l = length l.queue ≡ l.opened
