use Rattle.std.proofs.Common.{◌≡◌, ◌-◌, ◌<◌, length, map, true, false, rules, refl, sym, ◌∙◌, subst, arith}
use Rattle.std.proofs.lemmas.List.{length-map}
use Rattle.qm_core.specs.{Legal.past_of, Standing.was_opened}
use Rattle.qm_script.specs.{Kept.fed_of, Players.Playing}
use Rattle.qm_script.proofs.SessionLemmas.{tested_stop}
use Rattle.qm_script.proofs.player.Player.going.Goals as goal

pub returns-then-not-is_known-clause-stop : goal.returns-then-not-is_known-clause-stop
returns-then-not-is_known-clause-stop c =
    let unknown : c.is_known.result ≡ false = search rules in
    tested_stop c.args.self.now c.self.inside.monitor c.self.inside.feeders.items c.args.session false _ c.self.view_is (sym c.is_known.ensures.known ∙ unknown) refl

pub returns-then-is_closed-clause-stop : goal.returns-then-is_closed-clause-stop
returns-then-is_closed-clause-stop c =
    let known : c.is_known.result ≡ true = search rules in
    let dropped : c.is_closed.result ≡ true = search rules in
    tested_stop c.args.self.now c.self.inside.monitor c.self.inside.feeders.items c.args.session true true c.self.view_is (sym c.is_known.ensures.known ∙ known) (sym c.is_closed.ensures ∙ dropped)

pub returns-clause-stop : goal.returns-clause-stop
returns-clause-stop c =
    let known : c.is_known.result ≡ true = search rules in
    let more : c.is_closed.result ≡ false = search rules in
    tested_stop c.args.self.now c.self.inside.monitor c.self.inside.feeders.items c.args.session true false c.self.view_is (sym c.is_known.ensures.known ∙ known) (sym c.is_closed.ensures ∙ more)

pub returns-clause-takes : goal.returns-clause-takes
returns-clause-takes c =
    let known : c.is_known.result ≡ true = search rules in
    let more : c.is_closed.result ≡ false = search rules in
    let counted = c.is_known.ensures.counted known in
    let items = c.self.inside.feeders.items in
    let within : c.args.session - 1 < length (map fed_of items) = omega (arith, counted.0, counted.1, c.self.invariant.count, length-map items fed_of) in
    record {
      going = sym (tested_stop c.args.self.now c.self.inside.monitor items c.args.session true false c.self.view_is (sym c.is_known.ensures.known ∙ known) (sym c.is_closed.ensures ∙ more));
      known = subst (λ (p : Playing). was_opened c.args.session (past_of p.played.journal) ≡ true) c.self.view_is (sym c.is_known.ensures.known ∙ known);
      low = counted.0;
      within = subst (λ (p : Playing). c.args.session - 1 < length p.played.fed) c.self.view_is within;
    }
