use Rattle.std.proofs.Common.{◌<◌, ◌-◌, ◌++◌, ◌∙◌, List, Option, Some, ℕ, ap, arith, length, map, refl, sym, subst}
use Rattle.std.proofs.lemmas.List.{length-map, set-set}
use Rattle.qm_script.specs.{Kept.fed_of, Players.Playing}
use Rattle.qm_script.proofs.SessionLemmas.{fed_turns}
use Rattle.qm_script.proofs.player.Player.feed_at.Goals as goal

pub returns : goal.returns
returns c =
    let place = c.args.session - 1 in
    let items = c.self.inside.feeders.items in
    let bytes = c.args.bytes.now ++ c.args.ending.now in
    let seen : place < length (map fed_of items) = subst (λ (p : Playing). place < length p.played.fed) (sym c.self.view_is) c.requires.within in
    let within : place < length items = omega (arith, seen, length-map items fed_of) in
    let more = c.in_ok-fed_more.ensures ∙ ap (λ (f : Option (List ℕ)). fed_of f ++ bytes) (c.take-feeder.ensures.value ∙ c.index_mut.ensures.value) in
    rw (set-set items place c.take-feeder.new.self (Some c.in_ok-fed_more.field-0))
    (fed_turns c.args.self.now c.self.inside.monitor items c.args.session place bytes c.in_ok-fed_more.field-0 c.index_mut.result.now c.self.view_is c.requires refl within more)
