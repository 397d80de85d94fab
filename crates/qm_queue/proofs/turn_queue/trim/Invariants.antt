use Rattle.std.proofs.Common.{◌≡◌, ℕ, length, Some}
use Rattle.qm_queue.specs.{Firsts.Among, Trees.item_at, declared.turns.TurnItem.TurnItem}
use Rattle.qm_queue.proofs.turn_queue.trim.Given as goal

abbrev pub invariant-loop-line : goal.invariant-loop-line
invariant-loop-line l = (k : ℕ) (a : TurnItem) → item_at l.items k ≡ Some a → Among a l.initial.line → Among a l.line

abbrev pub decreases-loop-line : goal.decreases-loop-line
decreases-loop-line l = length l.line
