use Rattle.std.proofs.Common.{◌≡◌, ◌++◌, map, take}
use Rattle.qapi_mask.specs.{Called.told, Introspection.call_json}
use Rattle.qapi_mask.proofs.introspection.put_calls.Given as goal

abbrev pub invariant-loop-called : goal.invariant-loop-called
invariant-loop-called l = l.entries ≡ l.fn.entries ++ map (call_json l.naming) (map told (take l.called-index l.calls))
