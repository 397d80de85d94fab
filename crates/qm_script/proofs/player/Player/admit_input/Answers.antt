use Rattle.std.proofs.Common.{refl}
use Rattle.qm_core.specs.Next.{Admit}
use Rattle.qm_script.proofs.StepLemmas.{step_turns, still_fed, told_of}
use Rattle.qm_script.proofs.player.Player.admit_input.Goals as goal

pub invariant_of-self : goal.invariant_of-self
invariant_of-self c =
    still_fed c.self.inside.monitor c.admit.new.self c.self.inside.feeders.items _ (Admit c.args.session c.args.input) _ c.self.invariant refl tt (rw c.in_ok-offer.ensures at c.admit.ensures.next)

pub returns : goal.returns
returns c =
    step_turns c.args.self.now c.self.inside.monitor c.admit.new.self c.self.inside.feeders.items (Admit c.args.session c.args.input) _ c.stop_for.result c.self.view_is
    (rw c.in_ok-offer.ensures at c.admit.ensures.next) (told_of c.err.result _ _ c.err.ensures.value c.stop_for.ensures)
