use Rattle.std.proofs.Common.{◌≡◌, ℕ, List, Option, Some, None, Err, sym, subst}
use Rattle.qm_core.specs.declared.entries.StepFault.TheVariants.{Memory}
use Rattle.qm_script.specs.Kept.{OpenTurns, playing}
use Rattle.qm_script.proofs.StepLemmas.{open_turns, open_refused, popped}
use Rattle.qm_script.proofs.player.Player.open.Goals as goal

pub returns-in-Ok : goal.returns-in-Ok
returns-in-Ok c =
    subst (λ (l : List (Option (List ℕ))). OpenTurns c.args.self.now None (playing c.open.new.self l)) (sym c.in_ok-push.ensures.items)
    (open_turns c.args.self.now c.self.inside.monitor c.open.new.self c.self.inside.feeders.items c.self.view_is (c.in-Ok.ensures.next (λ e. cc)))

pub returns-in_ok-told-in-Err : goal.returns-in_ok-told-in-Err
returns-in_ok-told-in-Err c =
    let fault = c.in-Err.fault in
    let told = c.in_ok-told-in-Err.ensures in
    let items = c.self.inside.feeders.items in
    let same : c.pop.new.self.items ≡ items = popped items c.push.new.self.items c.pop.new.self.items None _ c.in_ok-push.ensures.items c.push.new.self.ok.0 c.pop.ensures.rest in
    let next = c.in-Err.ensures.next (λ e. told.known (let f : Err fault ≡ Err Memory = e in cc)) in
    subst (λ (l : List (Option (List ℕ))). OpenTurns c.args.self.now (Some c.in_ok-told-in-Err.field-0) (playing c.open.new.self l)) (sym same)
    (open_refused c.args.self.now c.self.inside.monitor c.open.new.self items fault c.in_ok-told-in-Err.field-0 c.self.view_is next told.stop)
