use Rattle.std.proofs.Common.{◌≡◌, ℕ, List, [], ◌∷◌, map, refl, ap, ◌∙◌}
use Rattle.qm_json.specs.Cleanness.{are_distinct}
use Rattle.qm_plan.specs.{Stores.Count}
use Rattle.qm_plan.proofs.Tables.{new-at}
use Rattle.qm_plan.proofs.stores.first_tallies.Goals as goal

themselves : (names : List (List ℕ)) → map (λ (n : List ℕ). n) names ≡ names
themselves [] = refl
themselves (n ∷ names) = ap (λ (l : List (List ℕ)). n ∷ l) (themselves names)

pub put_tally-requires : goal.put_tally-requires
put_tally-requires c =
    rw c.as_slice.ensures
    (new-at (λ (n : List ℕ). n) (λ (n : List ℕ). record { name = n; count = 0 }) (λ (t : Count). t.name) (λ n. refl)
    c.args.tallies.now c.loop-name.name-index c.name-item.result _ c.loop-name-test.true c.name-item.is (ap are_distinct (themselves c.args.tallies.now) ∙ c.requires) c.loop-name.invariant)
