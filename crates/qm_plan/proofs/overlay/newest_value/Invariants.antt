use Rattle.std.proofs.Common.{◌≡◌, ◌≤◌, length, take}
use Rattle.qm_plan.specs.Stores.{cell_in, newest}
use Rattle.qm_plan.proofs.overlay.newest_value.Given as goal

abbrev pub invariant-loop-end : goal.invariant-loop-end
invariant-loop-end l = record { within : l.end ≤ length l.changes; rest : newest (cell_in l.name) (take l.end l.changes) ≡ newest (cell_in l.name) l.changes }

abbrev pub decreases-loop-end : goal.decreases-loop-end
decreases-loop-end l = l.end
