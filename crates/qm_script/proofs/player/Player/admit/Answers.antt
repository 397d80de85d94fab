use Rattle.qm_script.proofs.SessionLemmas.{admit_refused}
use Rattle.qm_script.proofs.player.Player.admit.Goals as goal

pub returns-in-Err : goal.returns-in-Err
returns-in-Err c = admit_refused c.args.self.now c.args.session c.in-Err.stop c.in-Err.ensures.stop
