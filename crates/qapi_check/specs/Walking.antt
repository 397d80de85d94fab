-- The way down the branches to a name that stands a second time. This serves private functions.
use Rattle.std.specs.Prelude.{◌≡◌, ◌<◌, ◌+◌, ◌⊎◌, ◌++◌, ℕ, nat_eq, Bool, true, false, List, ◌∷◌, length, map, Option, Some, None}
use Rattle.std.specs.List.{IsDistinct}
use Rattle.qapi_types.specs.declared.kind.Kind.{Kind}
use Rattle.qapi_types.specs.{Chains.has, Chains.IsInside, Chains.Leads, Chains.NoneOnCycle, Chains.marked}
use Rattle.qapi_types.specs.{Choices.AreApart, Choices.ClashesAfter, Choices.IsFaulty, Choices.Table, Choices.again, Choices.names_of, Choices.shares}
use Rattle.qapi_types.specs.{Goodness.choices_of, Sets.HasNames, Types.branch_types}
use Rattle.qapi_check.specs.Clashes.{again_in, clash_of}

-- the marks are those of the first so many types: whether one of a type's own names stands twice, or in a type that it leads to
pub record MarkFaulty (t : Table) (n : ℕ) (marks : List Bool) : Type 0 where
  pub long : length marks ≡ n
  pub faulty : (a : ℕ) → marked marks a ≡ true → IsFaulty t a
  pub all : (a : ℕ) → a < n → marked marks a ≡ false → IsFaulty t a → ⊥

-- what stands beside the types: what each refers to, all of it types, none on a cycle, and the marks
pub record AreMarked (table : List Kind) (graph : List (List ℕ)) (faulty : List Bool) : Type 0 where
  pub branches : graph ≡ map branch_types table
  pub inside : IsInside (map branch_types table)
  pub free : NoneOnCycle (map branch_types table) (length table)
  pub marks : MarkFaulty (choices_of table) (length table) faulty

-- the type is faulty, or has a name of the set
abbrev pub Touches : Table → List (List ℕ) → ℕ → Type 0
Touches t set a = IsFaulty t a ⊎ (shares (names_of t.names a) set ≡ true)

-- a marked type is so
abbrev pub TouchesMarked : Table → List (List ℕ) → List Bool → Type 0
TouchesMarked t set marks = (b : ℕ) × (marked marks b ≡ true) × Touches t set b

-- the type is so, or one that it leads to
abbrev pub TouchesFrom : Table → List (List ℕ) → ℕ → Type 0
TouchesFrom t set a = Touches t set a ⊎ ((b : ℕ) × Leads t.branches a b × Touches t set b)

-- the first of some types of which that holds
pub record IsTouching (t : Table) (set : List (List ℕ)) (types : List ℕ) (b : ℕ) : Type 0 where
  pub before : List ℕ
  pub after : List ℕ
  pub split : types ≡ before ++ b ∷ after
  pub none : (c : ℕ) → has c before ≡ true → TouchesFrom t set c → ⊥
  pub touches : TouchesFrom t set b

abbrev pub IsFirstTouching : Table → List (List ℕ) → List ℕ → Option ℕ → Type 0
IsFirstTouching t set types None = (c : ℕ) → has c types ≡ true → TouchesFrom t set c → ⊥
IsFirstTouching t set types (Some b) = IsTouching t set types b

-- the names are added up to the first that is there already
pub record AddsNames (old names : List (List ℕ)) (first : Option (List ℕ)) (new : List (List ℕ)) : Type 0 where
  pub found : first ≡ again old names
  pub added : first ≡ None → HasNames new (old ++ names)

-- things without a repeat, each of which leads to the next one
pub record LeadsTo (graph : List (List ℕ)) (past : List ℕ) (a : ℕ) : Type 0 where
  pub apart : IsDistinct nat_eq past
  pub within : (q : ℕ) → has q past ≡ true → q < length graph
  pub leads : (q : ℕ) → has q past ≡ true → Leads graph q a

-- after so many turns at a type, from which a name stands a second time: what is found here is what is found from the first type
pub record IsOnTheWay (t : Table) (from turns : ℕ) (set : List (List ℕ)) (a : ℕ) : Type 0 where
  pub seen : List (List ℕ)
  pub past : List ℕ
  pub rest : ℕ
  pub within : a < length t.branches
  pub apart : AreApart seen
  pub holds : HasNames set seen
  pub clash : ClashesAfter t seen a
  pub trail : LeadsTo t.branches past a
  pub long : length past ≡ turns
  pub room : turns + rest ≡ length t.branches
  pub answers : (name : List ℕ) → again_in rest t seen a ≡ Some name → clash_of t from ≡ Some name
