use Rattle.std.proofs.Common.{refl}
use Rattle.qm_core.specs.Next.{Start}
use Rattle.qm_script.proofs.StepLemmas.{step_turns, still_fed, told_of}
use Rattle.qm_script.proofs.player.Player.start.Goals as goal

pub invariant_of-self : goal.invariant_of-self
invariant_of-self c = still_fed c.self.inside.monitor c.start.new.self c.self.inside.feeders.items _ Start _ c.self.invariant refl tt c.start.ensures.next

pub returns : goal.returns
returns c =
    step_turns c.args.self.now c.self.inside.monitor c.start.new.self c.self.inside.feeders.items Start _ c.stop_for.result c.self.view_is c.start.ensures.next
    (told_of c.err.result _ _ c.err.ensures.value c.stop_for.ensures)
