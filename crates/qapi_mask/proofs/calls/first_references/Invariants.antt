use Rattle.std.proofs.Common.{◌≡◌, map, take}
use Rattle.std.specs.List.{flat_map}
use Rattle.qapi_mask.specs.{Called.told, Naming.call_refs}
use Rattle.qapi_mask.proofs.calls.first_references.Given as goal

abbrev pub invariant-loop-called : goal.invariant-loop-called
invariant-loop-called l = l.types.items ≡ flat_map (call_refs l.kinds) (map told (take l.called-index l.calls))
