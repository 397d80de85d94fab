use Rattle.std.proofs.Common.{refl}
use Rattle.qm_core.specs.Next.{End}
use Rattle.qm_script.proofs.StepLemmas.{step_turns, still_fed, told_of}
use Rattle.qm_script.proofs.player.Player.end.Goals as goal

pub invariant_of-self : goal.invariant_of-self
invariant_of-self c = still_fed c.self.inside.monitor c.end.new.self c.self.inside.feeders.items _ (End c.args.session) _ c.self.invariant refl tt c.end.ensures

pub returns : goal.returns
returns c =
    step_turns c.args.self.now c.self.inside.monitor c.end.new.self c.self.inside.feeders.items (End c.args.session) _ c.stop_for.result c.self.view_is c.end.ensures
    (told_of c.err.result _ _ c.err.ensures.value c.stop_for.ensures)
