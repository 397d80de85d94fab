-- Places of names. This serves private functions.
use Rattle.std.specs.Prelude.{◌≡◌, ℕ, List, Option}
use Rattle.std.specs.{Borrow.Bor, Map.lookup, Str.bytes_eq}
use Rattle.qapi_types.specs.Lookups.{place_of}

-- the place that is noted of the name
abbrev pub place_in : List (Bor (List ℕ) × ℕ) → List ℕ → Option ℕ
place_in entries name = lookup (λ k. bytes_eq name k.now) entries

-- of each name the first place is noted
abbrev pub ArePlaces : List (List ℕ) → List (Bor (List ℕ) × ℕ) → Type 0
ArePlaces names entries = (name : List ℕ) → place_in entries name ≡ place_of names name
