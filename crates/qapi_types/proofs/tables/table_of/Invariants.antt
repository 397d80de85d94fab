use Rattle.std.proofs.Common.{◌≡◌, map, take}
use Rattle.qapi_types.proofs.tables.table_of.Given as goal

abbrev pub invariant-loop-name : goal.invariant-loop-name
invariant-loop-name l = l.table ≡ map (λ k. k.now) (take l.name-index l.names)
