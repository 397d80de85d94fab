use Rattle.std.proofs.Common.{map, take}
use Rattle.qapi_number.specs.Directories.{ArePlaces}
use Rattle.qapi_number.proofs.directory.places_of.Given as goal

abbrev pub invariant-loop-place : goal.invariant-loop-place
invariant-loop-place l = ArePlaces (λ k. k.items) (map (λ k. k.now) (take l.place l.names)) l.places.entries
