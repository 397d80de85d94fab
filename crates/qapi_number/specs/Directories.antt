-- Places of names. This serves private functions.
use Rattle.std.specs.Prelude.{◌≡◌, ℕ, List, Option}
use Rattle.std.specs.{Map.lookup, Str.bytes_eq}
use Rattle.qapi_types.specs.Lookups.{place_of}

-- the place that is noted of the name, among keys that f reads
abbrev pub place_in : {K : Type 0} → (K → List ℕ) → List (K × ℕ) → List ℕ → Option ℕ
place_in f entries name = lookup (λ k. bytes_eq name (f k)) entries

-- of each name the first place is noted
abbrev pub ArePlaces : {K : Type 0} → (K → List ℕ) → List (List ℕ) → List (K × ℕ) → Type 0
ArePlaces f names entries = (name : List ℕ) → place_in f entries name ≡ place_of names name
