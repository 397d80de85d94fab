use Rattle.std.proofs.Common.{◌≡◌, map, take}
use Rattle.qapi_types.specs.Lookups.{names_in}
use Rattle.qapi_types.proofs.sealing.kind_tables.Given as goal

abbrev pub invariant-loop-kind : goal.invariant-loop-kind
invariant-loop-kind l = l.tables.items ≡ map names_in (take l.kind-index l.kinds)
