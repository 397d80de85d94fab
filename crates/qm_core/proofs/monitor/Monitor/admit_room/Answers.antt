use Rattle.qm_core.specs.declared.entries.Entry.TheVariants.{Admit}
use Rattle.qm_core.proofs.Rooms.{placed}
use Rattle.qm_core.proofs.monitor.Monitor.admit_room.Goals as goal

pub returns : goal.returns
returns c =
    let found = c.room.ensures in
    placed c.args.self.now (Admit c.args.session c.args.number c.args.lane c.args.input.now) _ _ _ _ found.short c.next_number-at.ensures c.admit_size.ensures c.open_count.ensures.exact found.fault found.value found.room
