use Rattle.std.proofs.Common.{◌≡◌, [], take}
use Rattle.std.specs.List.{fold, flat_map, enumerate_from}
use Rattle.qapi_number.specs.Implicit.{with_implicit, implied_by}
use Rattle.qapi_number.proofs.references.implicit_types.Given as goal

abbrev pub invariant-loop-at : goal.invariant-loop-at
invariant-loop-at l = l.implicit ≡ fold with_implicit [] (flat_map (implied_by l.types) (enumerate_from 0 (take l.at l.definitions)))
