use Rattle.std.proofs.Common.{◌≡◌, ℕ, List, map, take}
use Rattle.qm_plan.specs.{Stores.counts_of}
use Rattle.qm_plan.proofs.stores.first_tallies.Given as goal

abbrev pub invariant-loop-name : goal.invariant-loop-name
invariant-loop-name l = counts_of (λ key. key.items) l.made.entries ≡ map (λ (name : List ℕ). record { name = name; count = 0 }) (take l.name-index l.tallies)
