use Rattle.std.proofs.Common.{◌≡◌, false, cond, take}
use Rattle.qm_throttle.specs.{Deadlines.has_due, Deadlines.is_listed, declared.due.Due.Due}
use Rattle.qm_throttle.proofs.deadlines.take_each.Given as goal

abbrev pub invariant-loop-due : goal.invariant-loop-due
invariant-loop-due l =
    (q : Due) → has_due l.deadlines.keys q ≡ cond (is_listed (take l.due-index l.nexts) q) false (has_due l.fn.deadlines.keys q)
