-- Tables of names, as lists whose order says nothing (this project's own rule).
use Rattle.std.specs.Prelude.{◌≡◌, ℕ, Bool, ◌||◌, List}
use Rattle.std.specs.{List.list_any, Str.bytes_eq}

-- the table has the name
abbrev pub is_named : List (List ℕ) → List ℕ → Bool
is_named names name = list_any (bytes_eq name) names

-- the names are those from before and one more
abbrev pub AddsName : List (List ℕ) → List ℕ → List (List ℕ) → Type 0
AddsName old name new = (other : List ℕ) → is_named new other ≡ (is_named old other || bytes_eq other name)

-- the names are those of the items
abbrev pub AreNamesOf : {A : Type 0} → (A → List ℕ) → List (List ℕ) → List A → Type 0
AreNamesOf name_of names items = (name : List ℕ) → is_named names name ≡ list_any (λ x. bytes_eq (name_of x) name) items
