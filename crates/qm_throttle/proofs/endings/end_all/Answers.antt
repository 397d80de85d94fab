use Rattle.std.proofs.Common.{arith}
use Rattle.qm_throttle.proofs.Ending.{windows_end, events_sent}
use Rattle.qm_throttle.proofs.endings.end_all.Goals as goal

pub loop-key-init : goal.loop-key-init
loop-key-init c =
    let given = c.into_iter-key-iterator.ensures.into_iter_gives in
    record {
      windows = rw given.0 (windows_end c.args.moment c.args.map.now.entries c.args.ended.now c.len.ensures.ordered given.4 c.requires.keys);
      sent = rw (given.0, c.requires.empty) (events_sent c.args.moment c.args.map.now.entries c.args.ended.now c.len.ensures.ordered given.4 c.requires.keys);
      room = rw (given.0, c.requires.empty) (omega (arith, c.requires.room));
    }
