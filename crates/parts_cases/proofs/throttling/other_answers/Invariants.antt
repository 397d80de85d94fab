use Rattle.std.proofs.Common.{◌≡◌, length}
use Rattle.parts_cases.proofs.throttling.other_answers.Given as goal

abbrev pub invariant-loop-row : goal.invariant-loop-row
invariant-loop-row l = length l.throttle.periods ≡ 4
