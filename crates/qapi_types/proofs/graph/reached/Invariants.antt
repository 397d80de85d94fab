use Rattle.qapi_types.specs.Chains.{IsSearchAfter, spread_of}
use Rattle.qapi_types.proofs.graph.reached.Given as goal

abbrev pub invariant-loop-turn : goal.invariant-loop-turn
invariant-loop-turn l = IsSearchAfter l.graph l.fn.from l.turn (spread_of l.marks.items l.pending.items)
