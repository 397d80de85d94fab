use Rattle.std.proofs.Common.{◌≡◌, map, take}
use Rattle.qm_bind.specs.Bindings.{unthrottled}
use Rattle.qm_bind.proofs.checking.periods.Given as goal

abbrev pub invariant-loop-event : goal.invariant-loop-event
invariant-loop-event l = l.periods ≡ map unthrottled (take l.event-index l.events)
