use Rattle.std.proofs.Common.{◌≡◌, map, take}
use Rattle.qapi_number.specs.Numbering.{type_number}
use Rattle.qapi_number.proofs.kinds.alternatives.Given as goal

abbrev pub invariant-loop-variant : goal.invariant-loop-variant
invariant-loop-variant l = l.list ≡ map (λ v. type_number l.numbering v.of) (take l.variant-index l.variants)
