use Rattle.std.proofs.Common.{arith, sym}
use Rattle.std.proofs.lemmas.List.{length-map}
use Rattle.qapi_types.proofs.DealLaws.{goes_first, goes_second, deals_stuck, deals_all}
use Rattle.qapi_types.proofs.places.are_placed.Goals as goal
use Rattle.qapi_types.proofs.places.are_placed.Goals.{then-command_is_at, else-command_is_at+then-event_is_at}

pub returns-else-event_is_at : goal.returns-else-event_is_at
returns-else-event_is_at c = deals_stuck _ _ c.loop-place.first c.loop-place.second c.loop-place.place c.loop-place.invariant (let m = length-map c.args.commands.now (λ c. c.place) in let n = length-map c.args.events.now (λ e. e.place) in omega (arith, m, n, c.loop-place-test.true)) (sym c.if-command_is_at.ensures) (sym c.if-event_is_at.ensures)

pub loop-place-preserved : goal.loop-place-preserved
loop-place-preserved c = elim c.if-command_is_at.branch [
  | then-command_is_at w ↦ goes_first _ _ c.loop-place.first c.loop-place.second _ _ c.loop-place.place c.loop-place.invariant w.if-command_is_at.ensures w.first-is w.second-is
  | else-command_is_at+then-event_is_at w ↦ goes_second _ _ c.loop-place.first c.loop-place.second _ _ c.loop-place.place c.loop-place.invariant w.if-event_is_at.ensures w.first-is w.second-is
]

pub returns : goal.returns
returns c = deals_all _ _ c.loop-place.first c.loop-place.second c.loop-place.place c.loop-place.invariant (let m = length-map c.args.commands.now (λ c. c.place) in let n = length-map c.args.events.now (λ e. e.place) in omega (arith, m, n, c.loop-place-test.false))
