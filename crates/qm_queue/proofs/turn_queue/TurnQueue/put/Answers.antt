use Rattle.std.proofs.Common.{◌-◌, Some, None}
use Rattle.std.proofs.lemmas.List.{set-set}
use Rattle.qm_queue.proofs.turn_queue.TurnQueue.put.Goals as goal

pub returns : goal.returns
returns c = rw (c.add.ensures, c.clear.ensures) (set-set c.args.self.now (c.args.item.session - 1) None (Some c.args.item))
