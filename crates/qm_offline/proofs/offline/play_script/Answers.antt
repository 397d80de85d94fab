use Rattle.qm_script.specs.Playing.{played_of}
use Rattle.qm_offline.proofs.PlayStatus.{played_status}
use Rattle.qm_offline.proofs.offline.play_script.Goals as goal

pub returns : goal.returns
returns g c = played_status (played_of c.args.world c.args.limits c.args.script.now) _ _ _ c.status.ensures c.play.ensures
