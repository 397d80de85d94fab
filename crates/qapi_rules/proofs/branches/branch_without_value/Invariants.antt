use Rattle.std.proofs.Common.{◌≡◌, drop}
use Rattle.qapi_rules.specs.Meanings.{meant}
use Rattle.qapi_rules.specs.References.{branch_without_value}
use Rattle.qapi_rules.proofs.branches.branch_without_value.Given as goal

abbrev pub invariant-loop-variant : goal.invariant-loop-variant
invariant-loop-variant l = branch_without_value (meant l.meaning) (drop l.variant-index l.variants) ≡ branch_without_value (meant l.meaning) l.variants
