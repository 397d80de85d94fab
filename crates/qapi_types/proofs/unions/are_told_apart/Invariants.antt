use Rattle.std.proofs.Common.{take}
use Rattle.qapi_types.specs.Goodness.{AreToldApart}
use Rattle.qapi_types.proofs.unions.are_told_apart.Given as goal

abbrev pub invariant-loop-i : goal.invariant-loop-i
invariant-loop-i l = AreToldApart l.kinds (take l.i l.types)
