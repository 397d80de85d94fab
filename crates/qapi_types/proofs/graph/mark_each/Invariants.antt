use Rattle.std.proofs.Common.{take}
use Rattle.qapi_types.specs.Chains.{Spreads, spread_of}
use Rattle.qapi_types.proofs.graph.mark_each.Given as goal

abbrev pub invariant-loop-number : goal.invariant-loop-number
invariant-loop-number l = Spreads (spread_of l.fn.marks.items l.fn.pending.items) (take l.number-index l.numbers) (spread_of l.marks.items l.pending.items)
