-- Sets of names, as lists whose order says nothing. This serves private functions.
use Rattle.std.specs.Prelude.{◌≡◌, ◌<◌, ◌^◌, ◌↔◌, ℕ, Bool, true, not, ◌||◌, ◌&&◌, ◌==◌, nat_lt, IsTrue, IsSome, List, length, map, slice_index, Option, Some, None}
use Rattle.std.specs.{List.All, List.list_any, Str.bytes_eq}
use Rattle.qapi_types.specs.declared.{kind.Kind.Kind, kind.MemberDef.MemberDef, choices.TypeFaults.TypeFaults}
use Rattle.qapi_types.specs.Chains.{Leads, NoneOnCycle, marked}
use Rattle.qapi_types.specs.{Choices.Table, Choices.AllApart, Choices.AreApart, Choices.IsFaulty, Choices.stands, Goodness.choices_of}
use Rattle.qapi_types.specs.{Lookups.names_in, Types.kind_of, Types.members_of, Types.branch_types, Types.json_kind_of}

-- the names are those from before and one more, which was not there where it is new
pub record AddsName (old : List (List ℕ)) (name : List ℕ) (is_new : Bool) (new : List (List ℕ)) : Type 0 where
  pub fresh : is_new ≡ not (stands name old)
  pub names : (other : List ℕ) → stands other new ≡ (stands other old || bytes_eq other name)

-- a name is in the set exactly where it stands in the list
abbrev pub HasNames : List (List ℕ) → List (List ℕ) → Type 0
HasNames set names = (name : List ℕ) → stands name set ≡ stands name names

-- the set of the names, or none where a name stands twice
abbrev pub IsSetOf : List (List ℕ) → Option (List (List ℕ)) → Type 0
IsSetOf names None = AreApart names → ⊥
IsSetOf names (Some set) = AreApart names × HasNames set names

-- the type has a member whose name is in the set
abbrev pub has_member_in : List (List ℕ) → Kind → Bool
has_member_in set kind = list_any (λ (m : MemberDef). stands m.name set) (members_of kind)

-- a marked type has such a member
abbrev pub MeetsMarked : List (List ℕ) → List Kind → List Bool → Type 0
MeetsMarked set table marks = (b : ℕ) × (marked marks b ≡ true) × (has_member_in set (kind_of table b) ≡ true)

-- the same; or there is no set
abbrev pub ClashesMarked : Option (List (List ℕ)) → List Kind → List Bool → Type 0
ClashesMarked None table marks = Unit {0}
ClashesMarked (Some set) table marks = MeetsMarked set table marks

-- the faults are those of the type
pub record HasFaults (t : Table) (a : ℕ) (faults : TypeFaults) : Type 0 where
  pub cycle : IsTrue faults.on_cycle ↔ Leads t.branches a a
  pub clash : IsTrue faults.clashes ↔ IsFaulty t a

-- no type is on a cycle of branches, and no name stands twice along any choice of them
abbrev pub HasGoodChoices : List Kind → Type 0
HasGoodChoices table = NoneOnCycle (map branch_types table) (length table) × AllApart (choices_of table)

-- the type is of one kind of JSON values, and none of the others is of it
abbrev pub IsNewKind : List Kind → List ℕ → ℕ → Type 0
IsNewKind table others t = IsSome (json_kind_of (kind_of table t)) × All (λ u. json_kind_of (kind_of table u) ≡ json_kind_of (kind_of table t) → ⊥) others

-- the number stands at the index of the list
abbrev pub is_at : ℕ → List ℕ → ℕ → Bool
is_at n numbers i = nat_lt i (length numbers) && slice_index numbers i == n

-- fewer than 2^32 names, none of which stands twice
pub record IsNamable (kind : Kind) : Type 0 where
  pub few : length (names_in kind) < 2 ^ 32
  pub apart : AreApart (names_in kind)
