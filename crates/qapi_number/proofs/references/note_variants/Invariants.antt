use Rattle.std.proofs.Common.{◌≡◌, take}
use Rattle.std.specs.List.{fold}
use Rattle.qapi_number.specs.Implicit.{with_implicit, implied_by_variants}
use Rattle.qapi_number.proofs.references.note_variants.Given as goal

abbrev pub invariant-loop-variant : goal.invariant-loop-variant
invariant-loop-variant l = l.implicit ≡ fold with_implicit l.initial.implicit (implied_by_variants l.types (take l.variant-index l.variants))
