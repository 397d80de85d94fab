use Rattle.qm_queue.proofs.Lining.{front_first}
use Rattle.qm_queue.proofs.line.Line.first.Goals as goal

pub returns-clause-first : goal.returns-clause-first
returns-clause-first c = rw (c.front.ensures, ← c.self.view_is) (front_first c.self.inside.items.items c.self.invariant)
