use Rattle.std.proofs.Common.{◌≡◌, ◌||◌, take}
use Rattle.qm_throttle.specs.{Deadlines.has_due, Deadlines.is_listed, declared.due.Due.Due}
use Rattle.qm_throttle.proofs.deadlines.put_each.Given as goal

abbrev pub invariant-loop-due : goal.invariant-loop-due
invariant-loop-due l =
    (q : Due) → has_due l.deadlines.keys q ≡ (is_listed (take l.due-index l.nexts) q || has_due l.fn.deadlines.keys q)
