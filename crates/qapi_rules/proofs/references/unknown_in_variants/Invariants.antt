use Rattle.std.proofs.Common.{◌≡◌, drop}
use Rattle.qapi_define.specs.Saying.{first_some}
use Rattle.qapi_rules.specs.References.{unknown}
use Rattle.qapi_rules.proofs.references.unknown_in_variants.Given as goal

abbrev pub invariant-loop-variant : goal.invariant-loop-variant
invariant-loop-variant l = first_some (λ v. unknown l.table v.of.name) (drop l.variant-index l.variants) ≡ first_some (λ v. unknown l.table v.of.name) l.variants
