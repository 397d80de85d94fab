use Rattle.qm_script.specs.Playing.{played_of}
use Rattle.qm_script.proofs.replays.play.Goals as goal

pub returns-in-Ok : goal.returns-in-Ok
returns-in-Ok g c = c.put_finished-end.ensures (played_of c.args.world c.args.limits c.args.script.now) c.in-Ok.ensures
