use Rattle.std.proofs.Common.{◌≡◌, take}
use Rattle.qapi_number.specs.Kinds.{value_defs}
use Rattle.qapi_number.proofs.copies.copy_values.Given as goal

abbrev pub invariant-loop-value : goal.invariant-loop-value
invariant-loop-value l = l.copy ≡ value_defs (take l.value-index l.values)
