use Rattle.std.proofs.Common.{◌<◌, ◌-◌, ◌∙◌, List, Option, ℕ, ap, arith, length, map, refl, sym, subst}
use Rattle.std.specs.List.{slice_get}
use Rattle.std.proofs.lemmas.List.{length-map}
use Rattle.std.proofs.lemmas.Result.{IfOk-weaker}
use Rattle.qm_script.specs.{Fed.fed_inputs_of, Kept.fed_of, Players.Playing}
use Rattle.qm_script.proofs.SessionLemmas.{next_of_fed}
use Rattle.qm_script.proofs.player.Player.next_input.Goals as goal

pub returns-clause-value : goal.returns-clause-value
returns-clause-value c =
    let place = c.args.session - 1 in
    let items = c.self.inside.feeders.items in
    let seen : place < length (map fed_of items) = subst (λ (p : Playing). place < length p.played.fed) (sym c.self.view_is) c.requires.within in
    let within : place < length items = omega (arith, seen, length-map items fed_of) in
    let found = ap (λ (f : Option (List ℕ)). slice_get (fed_inputs_of (fed_of f)) c.admitted.result) c.index.ensures in
    IfOk-weaker c.input_at.result _ _
    (λ input is. is ∙ found ∙ next_of_fed c.args.self.now c.self.inside.monitor items c.args.session place c.admitted.result c.index.result.now c.self.view_is refl within c.admitted.ensures)
    c.input_at.ensures.value
