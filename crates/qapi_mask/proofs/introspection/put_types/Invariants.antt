use Rattle.std.proofs.Common.{◌≡◌, ◌++◌, map, take}
use Rattle.qapi_mask.specs.{Introspection.type_json}
use Rattle.qapi_mask.proofs.introspection.put_types.Given as goal

abbrev pub invariant-loop-number : goal.invariant-loop-number
invariant-loop-number l = l.entries ≡ l.fn.entries ++ map (type_json l.naming) (take l.number-index l.numbers)
