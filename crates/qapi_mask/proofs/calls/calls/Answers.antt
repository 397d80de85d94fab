use Rattle.std.proofs.Common.{rules, sym, subst, ◌<◌, List, length, map}
use Rattle.std.proofs.lemmas.List.{map-append}
use Rattle.qapi_types.specs.declared.parts.EventDef.{EventDef}
use Rattle.qapi_mask.specs.Called.{told}
use Rattle.qapi_mask.proofs.Merging.{event-there, goes-command, goes-event}
use Rattle.qapi_mask.proofs.calls.calls.Goals as goal
use Rattle.qapi_mask.proofs.calls.calls.Goals.{then-is_command_at+in_ok-push, else-is_command_at+in_ok-push-2}

pub bounds-events-second : goal.bounds-events-second
bounds-events-second c =
    subst (λ (es : List EventDef). c.loop-place.second < length es) (sym c.as_slice-events.ensures) (event-there c.args.parts.now c.loop-place.first c.loop-place.second c.loop-place.place (map told c.loop-place.calls.items) c.loop-place.invariant c.requires.places (search rules) (search rules))

pub loop-place-preserved : goal.loop-place-preserved
loop-place-preserved c = elim c.if-is_command_at.branch [
  | then-is_command_at+in_ok-push w ↦
      goes-command c.args.parts.now c.loop-place.first c.loop-place.second c.loop-place.place _ _ (map told c.loop-place.calls.items) _ w.index-commands-first.result c.loop-place.invariant
      (search rules) w.first-is w.second-is (search rules) (search (rules, map-append))
  | else-is_command_at+in_ok-push-2 w ↦
      goes-event c.args.parts.now c.loop-place.first c.loop-place.second c.loop-place.place _ _ (map told c.loop-place.calls.items) _ w.index-events-second.result c.loop-place.invariant c.requires.places
      (search rules) (search rules) w.first-is w.second-is (search rules) (search (rules, map-append))
]
