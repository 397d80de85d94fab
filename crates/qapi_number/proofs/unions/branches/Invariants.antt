use Rattle.std.proofs.Common.{◌≡◌, map, take}
use Rattle.qapi_number.specs.Kinds.{branch_def}
use Rattle.qapi_number.proofs.unions.branches.Given as goal

abbrev pub invariant-loop-variant : goal.invariant-loop-variant
invariant-loop-variant l = l.list ≡ map (branch_def l.numbering l.names) (take l.variant-index l.variants)
