use Rattle.std.proofs.Common.{◌≡◌, take}
use Rattle.qapi_mask.specs.{Below.variant_jsons, Naming.mask_of}
use Rattle.qapi_mask.proofs.objects.variant_objects.Given as goal

abbrev pub invariant-loop-at : goal.invariant-loop-at
invariant-loop-at l = l.items ≡ variant_jsons (mask_of l.naming) (take l.at l.values) (take l.at l.types)
