use Rattle.std.proofs.Common.{rules, arith}
use Rattle.qapi_types.proofs.ChainLaws.{begun, long_from, inside_from, waits_within, on, ended_from, ended}
use Rattle.qapi_types.proofs.graph.reached.Goals as goal

pub mark_each-requires : goal.mark_each-requires
mark_each-requires c = inside_from c.args.graph.now c.args.from _ _ c.requires.inside c.requires.within c.references_of.ensures (long_from _ _ c.in_ok-marks.ensures)

pub loop-turn-init : goal.loop-turn-init
loop-turn-init c = begun c.args.graph.now c.args.from _ _ _ _ c.in_ok-marks.ensures c.new-pending.ensures.items c.references_of.ensures c.in_ok-mark_each.ensures

pub returns-in_default : goal.returns-in_default
returns-in_default c = ended_from c.args.graph.now c.args.from c.loop-turn.marks.items _ _ c.loop-turn.invariant.search c.in_default.ensures.items (search rules)

pub references_of-requires-in-loop-turn : goal.references_of-requires-in-loop-turn
references_of-requires-in-loop-turn c = waits_within c.args.graph.now c.args.from _ _ _ _ c.loop-turn.invariant.search c.in-Some.ensures.items

pub mark_each-requires-in-loop-turn : goal.mark_each-requires-in-loop-turn
mark_each-requires-in-loop-turn c = inside_from c.args.graph.now c.in-Some.number _ _ c.requires.inside (waits_within c.args.graph.now c.args.from _ _ _ _ c.loop-turn.invariant.search c.in-Some.ensures.items) c.references_of-in-loop-turn.ensures c.loop-turn.invariant.search.long

pub loop-turn-preserved : goal.loop-turn-preserved
loop-turn-preserved c = on c.args.graph.now c.args.from c.loop-turn.turn c.in-Some.number _ _ _ _ _ c.loop-turn.invariant c.in-Some.ensures.items c.references_of-in-loop-turn.ensures c.in_ok-mark_each-2.ensures

pub returns : goal.returns
returns c = ended c.args.graph.now c.args.from c.loop-turn.turn c.loop-turn.marks.items c.loop-turn.pending.items c.loop-turn.invariant (omega (arith, c.loop-turn-test.false))
