-- Lists with reserved places (this project's own rule).
use Rattle.std.specs.Prelude.{ℕ, List, refl}
use Rattle.std.specs.Coded.{Coded, code_by, coded×, coded_list, coded_ℕ}

-- the items, and how many places are reserved for them in all
pub record Reserved (T : Type 0) : Type 0 where
  pub items : List T
  pub places : ℕ

-- it is stored as the pair of its fields
abbrev pub reserved_code : {T : Type 0} → Coded T → Coded (Reserved T)
reserved_code {T} code =
    code_by (List T × ℕ) (coded× (coded_list code) coded_ℕ) (λ r. (r.items, r.places)) (λ p. record { items = p.0; places = p.1 }) (λ _. refl)
