use Rattle.std.proofs.Common.{take}
use Rattle.qm_queue.specs.Firsts.{IsFirst}
use Rattle.qm_queue.proofs.turns.first_among.Given as goal

abbrev pub invariant-loop-item : goal.invariant-loop-item
invariant-loop-item l = IsFirst (take l.item-index l.waiting) l.first
