use Rattle.std.proofs.Common.{arith}
use Rattle.qapi_number.proofs.DirectoryLaws.{places_more}
use Rattle.qapi_number.proofs.directory.places_of.Goals as goal

pub loop-place-preserved : goal.loop-place-preserved
loop-place-preserved c = places_more (λ k. k.items) (λ k. k.now) c.args.names.now c.loop-place.place _ c.loop-place.places.entries c.note.new.places.entries (omega arith) c.loop-place.invariant c.in_ok-note.ensures
