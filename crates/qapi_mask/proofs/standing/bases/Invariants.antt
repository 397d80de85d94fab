use Rattle.qapi_mask.specs.{Naming.base_of, Tables.Tells}
use Rattle.qapi_mask.proofs.standing.bases.Given as goal

abbrev pub invariant-loop-number : goal.invariant-loop-number
invariant-loop-number l = Tells (base_of l.kinds) l.number l.bases.items
