use Rattle.qm_core.specs.declared.entries.Entry.TheVariants.{Start}
use Rattle.qm_core.proofs.Rooms.{placed}
use Rattle.qm_core.proofs.monitor.Monitor.start_room.Goals as goal

pub returns : goal.returns
returns c =
    let found = c.room.ensures in
    placed c.args.self.now (Start c.args.session c.args.number) _ _ _ _ found.short c.next_number-at.ensures c.start_size.ensures c.open_count.ensures.exact found.fault found.value found.room
