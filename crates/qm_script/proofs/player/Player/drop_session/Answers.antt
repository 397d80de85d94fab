use Rattle.qm_script.proofs.SessionLemmas.{drop_refused}
use Rattle.qm_script.proofs.player.Player.drop_session.Goals as goal

pub returns-in-Err : goal.returns-in-Err
returns-in-Err c = drop_refused c.args.self.now c.args.session c.args.cause c.in-Err.stop c.in-Err.ensures.stop
