use Rattle.std.proofs.Common.{◌≡◌, nat_le, false, cond, length}
use Rattle.qm_throttle.specs.{Deadlines.has_due, declared.due.Due.Due}
use Rattle.qm_throttle.proofs.deadlines.take_come.Given as goal

abbrev pub invariant-loop-deadlines : goal.invariant-loop-deadlines
invariant-loop-deadlines l =
    (q : Due) → cond (nat_le q.deadline l.moment) false (has_due l.fn.deadlines.keys q) ≡ cond (nat_le q.deadline l.moment) false (has_due l.deadlines.keys q)

abbrev pub decreases-loop-deadlines : goal.decreases-loop-deadlines
decreases-loop-deadlines l = length l.deadlines.keys
