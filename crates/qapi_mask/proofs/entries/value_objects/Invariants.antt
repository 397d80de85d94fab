use Rattle.std.proofs.Common.{◌≡◌, map, take}
use Rattle.qapi_mask.specs.{Entries.value_entry, Printing.value_json}
use Rattle.qapi_mask.proofs.entries.value_objects.Given as goal

abbrev pub invariant-loop-value : goal.invariant-loop-value
invariant-loop-value l = l.items ≡ map value_json (map value_entry (take l.value-index l.values))
