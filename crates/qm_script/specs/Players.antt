-- What a player of a script shows (this project's own rule).
use Rattle.std.specs.Prelude.{ℕ, List, refl}
use Rattle.std.specs.Coded.{Coded, code_by, coded×, coded_list, coded_ℕ}
use Rattle.qm_core.specs.declared.{entries.Entry.Entry, monitor.Limits.Limits, world.World.World}
use Rattle.qm_script.specs.Playing.{Played}

-- the world and the limits of its monitor, and what it played
pub record Playing : Type 0 where
  pub world : World
  pub limits : Limits
  pub played : Played

-- it is stored as its fields, nested in pairs, and what was played likewise
abbrev pub playing_code : Coded World → Coded Entry → Coded Playing
playing_code world entry =
    code_by (World × ((ℕ × ℕ) × (List Entry × List (List ℕ))))
    (coded× world (coded× (coded× coded_ℕ coded_ℕ) (coded× (coded_list entry) (coded_list (coded_list coded_ℕ)))))
    (λ p. (p.world, ((p.limits.entries, p.limits.text), (p.played.journal, p.played.fed))))
    (λ q. record { world = q.0; limits = record { entries = q.1.0.0; text = q.1.0.1 }; played = record { journal = q.1.1.0; fed = q.1.1.1 } })
    (λ _. refl)
