use Rattle.std.proofs.Common.{◌≡◌, map, take}
use Rattle.qm_json.specs.declared.value.Json.TheVariants as json
use Rattle.qapi_mask.proofs.entries.strings.Given as goal

abbrev pub invariant-loop-name : goal.invariant-loop-name
invariant-loop-name l = l.items ≡ map json.Str (take l.name-index l.names)
