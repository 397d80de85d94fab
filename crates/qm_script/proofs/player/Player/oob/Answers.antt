use Rattle.qm_script.proofs.SessionLemmas.{oob_refused}
use Rattle.qm_script.proofs.player.Player.oob.Goals as goal

pub returns-in-Err : goal.returns-in-Err
returns-in-Err c = oob_refused c.args.self.now c.args.session c.args.moment c.in-Err.stop c.in-Err.ensures.stop
