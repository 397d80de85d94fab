use Rattle.std.proofs.Common.{◌≡◌, map, take}
use Rattle.qapi_types.proofs.names.names_of_events.Given as goal

abbrev pub invariant-loop-event : goal.invariant-loop-event
invariant-loop-event l = map (λ k. k.now) l.names ≡ map (λ x. x.name) (take l.event-index l.events)
