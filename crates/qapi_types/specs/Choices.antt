-- Names along choices of branches.
use Rattle.std.specs.Prelude.{◌≡◌, ◌<◌, ◌≤◌, ◌+◌, ◌⊎◌, ◌++◌, ℕ, Bool, true, cond, List, length, slice_index_or, [], ◌∷◌, Option, Some, None, is_some}
use Rattle.std.specs.{List.list_any, Str.bytes_eq}
use Rattle.qm_base.specs.Names.{is_named}
use Rattle.qapi_types.specs.Chains.{IsInside, Refers, Leads}

-- how often a name stands in a list
abbrev pub times : List ℕ → List (List ℕ) → ℕ
times name [] = 0
times name (other ∷ names) = cond (bytes_eq name other) 1 0 + times name names

-- each type's own names, those of its base first, and the types of its branches
pub record Table : Type 0 where
  pub names : List (List (List ℕ))
  pub branches : List (List ℕ)

abbrev pub names_of : List (List (List ℕ)) → ℕ → List (List ℕ)
names_of names a = slice_index_or names a []

-- the names along some choice of branches from a type on
pub data Along (t : Table) : ℕ → List (List ℕ) → Type 0 where
  stays : (a : ℕ) → Along t a (names_of t.names a)
  takes : {a b : ℕ} {ns : List (List ℕ)} → Refers t.branches a b → Along t b ns → Along t a (names_of t.names a ++ ns)

-- after some names, a name stands a second time along some choice of branches
pub record ClashesAfter (t : Table) (seen : List (List ℕ)) (a : ℕ) : Type 0 where
  pub names : List (List ℕ)
  pub name : List ℕ
  pub along : Along t a names
  pub twice : 2 ≤ times name (seen ++ names)

abbrev pub Clashes : Table → ℕ → Type 0
Clashes t a = ClashesAfter t [] a

-- no name stands twice
abbrev pub AreApart : List (List ℕ) → Type 0
AreApart names = (name : List ℕ) → times name names ≤ 1

-- the name is among those given
abbrev pub stands : List ℕ → List (List ℕ) → Bool
stands name names = is_named names name

-- the first name that stands among those seen, or a second time
abbrev pub again : List (List ℕ) → List (List ℕ) → Option (List ℕ)
again seen [] = None
again seen (name ∷ names) = cond (stands name seen) (Some name) (again (seen ++ name ∷ []) names)

-- no name stands twice along any choice of branches
abbrev pub AllApart : Table → Type 0
AllApart t = (a : ℕ) → a < length t.names → (names : List (List ℕ)) → Along t a names → AreApart names

-- The rest serves private functions.

abbrev pub shares : List (List ℕ) → List (List ℕ) → Bool
shares names others = list_any (λ name. stands name others) names

-- one of the type's own names stands twice, or in a type that it leads to
abbrev pub IsFaulty : Table → ℕ → Type 0
IsFaulty t a = (is_some (again [] (names_of t.names a)) ≡ true) ⊎ ((b : ℕ) × Leads t.branches a b × (shares (names_of t.names a) (names_of t.names b) ≡ true))

abbrev pub table_of : List (List (List ℕ)) → List (List ℕ) → Table
table_of names branches = record { names = names; branches = branches }

-- what the searches below want of their arguments
pub record IsTable (t : Table) : Type 0 where
  pub inside : IsInside t.branches
  pub long : length t.names ≡ length t.branches
