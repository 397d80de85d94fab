use Rattle.std.proofs.Common.{◌≡◌, drop}
use Rattle.qapi_rules.specs.References.{bad_variant}
use Rattle.qapi_rules.proofs.variants.bad_variant.Given as goal

abbrev pub invariant-loop-variant : goal.invariant-loop-variant
invariant-loop-variant l = bad_variant l.table l.is_alternate (drop l.variant-index l.variants) ≡ bad_variant l.table l.is_alternate l.variants
