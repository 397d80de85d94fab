use Rattle.std.proofs.Common.{map}
use Rattle.qapi_types.proofs.DealLaws.{Deals}
use Rattle.qapi_types.proofs.places.are_placed.Given as goal

abbrev pub invariant-loop-place : goal.invariant-loop-place
invariant-loop-place l = Deals (map (λ c. c.place) l.commands) (map (λ e. e.place) l.events) l.first l.second l.place
