use Rattle.qm_core.specs.declared.entries.Entry.TheVariants.{OobDone}
use Rattle.qm_core.proofs.Rooms.{placed}
use Rattle.qm_core.proofs.monitor.Monitor.oob_room.Goals as goal

pub returns : goal.returns
returns c =
    let found = c.room.ensures in
    placed c.args.self.now (OobDone c.args.session c.args.number c.args.plan.now c.args.reply.now c.args.moment) _ _ _ _ found.short c.next_number-at.ensures c.oob_done_size.ensures c.open_count.ensures.exact found.fault found.value found.room
