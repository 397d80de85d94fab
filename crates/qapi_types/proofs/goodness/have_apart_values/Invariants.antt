use Rattle.std.proofs.Common.{take}
use Rattle.std.specs.List.{All}
use Rattle.qapi_types.specs.Goodness.{HasApartValues}
use Rattle.qapi_types.proofs.goodness.have_apart_values.Given as goal

abbrev pub invariant-loop-kind : goal.invariant-loop-kind
invariant-loop-kind l = All HasApartValues (take l.kind-index l.kinds)
