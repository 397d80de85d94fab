use Rattle.std.proofs.Common.{sym}
use Rattle.qm_queue.specs.{Firsts.IsFirst, Turns.waiting_in}
use Rattle.qm_queue.proofs.{Lining.queue-first, Lining.first-opened, Orders.first-is}
use Rattle.qm_queue.proofs.turn_queue.TurnQueue.first.Goals as goal

pub returns : goal.returns
returns c =
    let all : IsFirst (waiting_in c.self.inside.items.items) c.earlier.result.now =
    queue-first c.self.inside.items.items c.self.inside.tree c.self.inside.line c.first.result c.first-2.result c.earlier.result.now c.self.invariant c.first.ensures c.first-2.ensures.first c.first-2.ensures.front c.earlier.ensures in
    rw (← c.self.view_is) record {
      first = sym (first-is (waiting_in c.self.inside.items.items) c.earlier.result.now all);
      opened = first-opened c.self.inside.items.items c.earlier.result.now c.self.invariant.0 all;
    }
