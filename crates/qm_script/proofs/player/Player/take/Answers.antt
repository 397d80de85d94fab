use Rattle.std.proofs.Common.{refl}
use Rattle.qm_core.specs.Next.{Take}
use Rattle.qm_script.proofs.StepLemmas.{step_turns, still_fed, told_of}
use Rattle.qm_script.proofs.player.Player.take.Goals as goal

pub invariant_of-self : goal.invariant_of-self
invariant_of-self c = still_fed c.self.inside.monitor c.take.new.self c.self.inside.feeders.items _ (Take c.args.session) _ c.self.invariant refl tt c.take.ensures.next

pub returns : goal.returns
returns c =
    step_turns c.args.self.now c.self.inside.monitor c.take.new.self c.self.inside.feeders.items (Take c.args.session) _ c.stop_for.result c.self.view_is c.take.ensures.next
    (told_of c.err.result _ _ c.err.ensures.value c.stop_for.ensures)
