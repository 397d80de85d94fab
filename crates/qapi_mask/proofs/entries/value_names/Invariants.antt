use Rattle.std.proofs.Common.{◌≡◌, map, take}
use Rattle.qm_json.specs.declared.value.Json.TheVariants as json
use Rattle.qapi_mask.specs.Entries.{ValueEntry, value_entry}
use Rattle.qapi_mask.proofs.entries.value_names.Given as goal

abbrev pub invariant-loop-value : goal.invariant-loop-value
invariant-loop-value l = l.items ≡ map (λ (v : ValueEntry). json.Str v.name) (map value_entry (take l.value-index l.values))
