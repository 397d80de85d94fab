-- The places of given members for 256 of a type's members. It serves private functions.
use Rattle.std.specs.Prelude.{◌≡◌, ◌<◌, ◌≤◌, ◌+◌, ◌-◌, ℕ, List, [], length, cond, nat_lt, Option, Some, None, slice_index_or, slice_set}
use Rattle.qm_json.specs.declared.value.{Member.Member}
use Rattle.qm_admit.specs.Walks.{place_of_name}

-- the places are those of the first given members of the names from the position on
pub record ArePlaced (given : List Member) (names : List (List ℕ)) (start : ℕ) (places : List (Option ℕ)) : Type 0 where
  pub long : length places ≡ 256
  pub each : (k : ℕ) → k < 256 → start + k < length names → slice_index_or places k None ≡ place_of_name given (slice_index_or names (start + k) [])

-- the position is among the 256 from the start on
pub record Covers (start position : ℕ) : Type 0 where
  pub from : start ≤ position
  pub below : position < start + 256

abbrev pub noted : List (Option ℕ) → Option ℕ → ℕ → List (Option ℕ)
noted places None position = places
noted places (Some k) position = slice_set places k (Some position)

-- where the position stands among the 256 from the start on
abbrev pub slot_of : ℕ → Option ℕ → Option ℕ
slot_of start None = None
slot_of start (Some p) = cond (nat_lt p start) None (cond (nat_lt (p - start) 256) (Some (p - start)) None)
