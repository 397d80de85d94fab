use Rattle.qapi_mask.specs.{Naming.shown_of, Tables.Tells}
use Rattle.qapi_mask.proofs.standing.shown.Given as goal

abbrev pub invariant-loop-number : goal.invariant-loop-number
invariant-loop-number l = Tells (shown_of l.kinds) l.number l.shown.items
