use Rattle.std.proofs.Common.{◌≡◌, ◌++◌, map, take}
use Rattle.qapi_rules.specs.Cycles.{places_of}
use Rattle.qapi_rules.proofs.cycles.add_types.Given as goal

abbrev pub invariant-loop-variant : goal.invariant-loop-variant
invariant-loop-variant l = l.row ≡ l.fn.row ++ places_of l.table (map (λ v. v.of.name) (take l.variant-index l.variants))
