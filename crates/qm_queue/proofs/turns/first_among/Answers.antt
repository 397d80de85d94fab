use Rattle.std.proofs.Common.{sym, arith}
use Rattle.std.proofs.lemmas.List.{take_all}
use Rattle.qm_queue.proofs.Orders.{first-step, first-is}
use Rattle.qm_queue.proofs.turns.first_among.Goals as goal

pub loop-item-preserved : goal.loop-item-preserved
loop-item-preserved c = first-step _ _ _ _ _ c.loop-item-test.true c.loop-item.invariant (c.earlier.ensures)

pub returns : goal.returns
returns c = sym (first-is c.args.waiting.now c.loop-item.first (rw (take_all c.loop-item.item-index c.args.waiting.now (omega arith)) at c.loop-item.invariant))
