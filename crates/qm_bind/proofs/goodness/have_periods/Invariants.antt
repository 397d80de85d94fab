use Rattle.std.proofs.Common.{◌≡◌, map, take}
use Rattle.qm_bind.specs.Bindings.{unthrottled}
use Rattle.qm_bind.proofs.goodness.have_periods.Given as goal

abbrev pub invariant-loop-i : goal.invariant-loop-i
invariant-loop-i l = take l.i l.periods ≡ map unthrottled (take l.i l.events)
