use Rattle.std.proofs.Common.{◌-◌, refl}
use Rattle.qm_script.proofs.StepLemmas.{drop_turns, drop_unheld}
use Rattle.qm_script.proofs.player.Player.drop_at.Goals as goal

pub returns-in-Ok : goal.returns-in-Ok
returns-in-Ok c =
    drop_turns c.args.self.now c.self.inside.monitor c.drop_session.new.self c.self.inside.feeders.items c.args.session (c.args.session - 1) c.args.cause c.self.view_is refl c.in-Ok.ensures

pub returns-in-Err : goal.returns-in-Err
returns-in-Err c =
    drop_unheld c.args.self.now c.self.inside.monitor c.drop_session.new.self c.self.inside.feeders.items c.args.session c.args.cause c.in-Err.fault c.stop_of.result c.self.view_is
    c.in-Err.ensures c.stop_of.ensures
