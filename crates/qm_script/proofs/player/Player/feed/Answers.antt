use Rattle.std.proofs.Common.{◌++◌}
use Rattle.qm_script.proofs.SessionLemmas.{fed_refused}
use Rattle.qm_script.proofs.player.Player.feed.Goals as goal

pub returns-in-Err : goal.returns-in-Err
returns-in-Err c = fed_refused c.args.self.now c.args.session (c.args.bytes.now ++ c.args.ending.now) c.in-Err.stop c.in-Err.ensures.stop
