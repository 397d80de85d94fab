use Rattle.std.proofs.Common.{◌≡◌, map, take}
use Rattle.qapi_mask.specs.{Naming.mask_of, Printing.alternative_json}
use Rattle.qapi_mask.proofs.objects.alternative_objects.Given as goal

abbrev pub invariant-loop-type_id : goal.invariant-loop-type_id
invariant-loop-type_id l = l.items ≡ map alternative_json (map (mask_of l.naming) (take l.type_id-index l.types))
