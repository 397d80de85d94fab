-- Which parts make a schema (QAPI code generation guide, "Schema syntax"; the counts, the numbers and the JSON
-- kinds of alternatives are this project's own rule). Each condition is a field of the last record.
use Rattle.std.specs.Prelude.{◌≡◌, ◌<◌, ◌+◌, ◌^◌, ⊤, ℕ, true, false, List, [], ◌∷◌, ◌++◌, map, length, IfSome, IsSome}
use Rattle.std.specs.List.{All, AllPairs}
use Rattle.qapi_types.specs.declared.{kind.Branch.Branch, kind.Kind.Kind, kind.MemberDef.MemberDef, parts.ArgType.ArgType}
use Rattle.qapi_types.specs.declared.kind.Kind.TheVariants as kinds
use Rattle.qapi_types.specs.declared.parts.ArgType.TheVariants as args
use Rattle.qapi_types.specs.declared.parts.{CommandDef.CommandDef, EventDef.EventDef, Parts.Parts}
use Rattle.qapi_types.specs.{Chains.NoneOnCycle, Choices.AreApart, Choices.AllApart, Choices.Table, Choices.table_of}
use Rattle.qapi_types.specs.Lookups.{command_names, event_names}
use Rattle.qapi_types.specs.Types.{kind_of, is_object, is_enum, is_array, members_of, branches_of, values_of, member_names, value_names, branch_types, tag_position, tag_member, tag_values, json_kind_of}

-- fewer than 2^32 members or values in the type
abbrev pub IsShort : Kind → Type 0
IsShort kind = (length (members_of kind) < 2 ^ 32) × (length (values_of kind) < 2 ^ 32)

-- fewer than 2^32 commands and events together, types, and members or values in one type
pub record IsCounted (p : Parts) : Type 0 where
  pub definitions : length p.commands + length p.events < 2 ^ 32
  pub types : length p.kinds < 2 ^ 32
  pub parts : All IsShort p.kinds

-- the type refers to types below the number alone
abbrev pub RefersBelow : ℕ → Kind → Type 0
RefersBelow n (kinds.Array e) = e < n
RefersBelow n (kinds.Object def) = All (λ (m : MemberDef). m.type_id < n) def.members × All (λ (b : Branch). b.type_id < n) def.branches
RefersBelow n (kinds.Alternate types features) = All (λ t. t < n) types
RefersBelow n kind = ⊤

abbrev pub TakesBelow : ℕ → ArgType → Type 0
TakesBelow n (args.Typed t) = t < n
TakesBelow n args.AnyObject = ⊤

abbrev pub CommandBelow : ℕ → CommandDef → Type 0
CommandBelow n c = TakesBelow n c.arg × (c.ret < n)

-- the tag is one of the members, and the value of each branch one of the tag's values: without a tag there is no branch
abbrev pub HasPositions : List Kind → Kind → Type 0
HasPositions table kind = IfSome (tag_position kind) (λ p. p < length (members_of kind)) × All (λ (b : Branch). b.value < length (tag_values table kind)) (branches_of kind)

-- all numbers of types and all positions are in range
pub record IsInRange (p : Parts) : Type 0 where
  pub types : All (RefersBelow (length p.kinds)) p.kinds
  pub commands : All (CommandBelow (length p.kinds)) p.commands
  pub events : All (λ (e : EventDef). e.arg < length p.kinds) p.events
  pub positions : All (HasPositions p.kinds) p.kinds

-- the names of commands and events, which are all definitions whose names the table keeps
abbrev pub definition_names : Parts → List (List ℕ)
definition_names p = command_names p ++ event_names p

abbrev pub HasApartValues : Kind → Type 0
HasApartValues kind = AreApart (value_names kind)

-- each branch's type is an object type
abbrev pub AreObjects : List Kind → List Branch → Type 0
AreObjects table branches = All (λ (b : Branch). is_object (kind_of table b.type_id) ≡ true) branches

-- no value has two branches
abbrev pub HaveOwnValues : List Branch → Type 0
HaveOwnValues branches = AllPairs (λ (b c : Branch). b.value ≡ c.value → ⊥) branches

abbrev pub HasBranches : List Kind → Kind → Type 0
HasBranches table kind = AreObjects table (branches_of kind) × HaveOwnValues (branches_of kind)

-- the tag is a mandatory member of an enum type
abbrev pub HasTag : List Kind → Kind → Type 0
HasTag table kind = IfSome (tag_member kind) (λ (m : MemberDef). (m.optional ≡ false) × (is_enum (kind_of table m.type_id) ≡ true))

-- each type's own names, those of its bases first, and the types of its branches
abbrev pub choices_of : List Kind → Table
choices_of table = table_of (map member_names table) (map branch_types table)

abbrev pub HasPlainElement : List Kind → Kind → Type 0
HasPlainElement table (kinds.Array e) = is_array (kind_of table e) ≡ false
HasPlainElement table kind = ⊤

-- each type is of one kind of JSON values, so it is neither that of all values nor an alternate; no two are of the same
abbrev pub AreToldApart : List Kind → List ℕ → Type 0
AreToldApart table types = All (λ t. IsSome (json_kind_of (kind_of table t))) types × AllPairs (λ t u. json_kind_of (kind_of table t) ≡ json_kind_of (kind_of table u) → ⊥) types

abbrev pub HasApartAlternatives : List Kind → Kind → Type 0
HasApartAlternatives table (kinds.Alternate types features) = AreToldApart table types
HasApartAlternatives table kind = ⊤

-- the numbers from the first on, each once: the next one stands in one of two lists, before all later ones of it
pub data AreDealt : ℕ → List ℕ → List ℕ → Type 0 where
  none : {n : ℕ} → AreDealt n [] []
  first : {n : ℕ} {xs ys : List ℕ} → AreDealt (n + 1) xs ys → AreDealt n (n ∷ xs) ys
  second : {n : ℕ} {xs ys : List ℕ} → AreDealt (n + 1) xs ys → AreDealt n xs (n ∷ ys)

abbrev pub command_places : List CommandDef → List ℕ
command_places commands = map (λ (c : CommandDef). c.place) commands

abbrev pub event_places : List EventDef → List ℕ
event_places events = map (λ (e : EventDef). e.place) events

pub record IsGood (p : Parts) : Type 0 where
  pub counts : IsCounted p
  pub ranges : IsInRange p
  pub names : AreApart (definition_names p)
  pub values : All HasApartValues p.kinds
  pub branches : All (HasBranches p.kinds) p.kinds
  pub tags : All (HasTag p.kinds) p.kinds
  -- no member's name stands twice along any choice of branches
  pub choices : AllApart (choices_of p.kinds)
  -- no type is on a cycle of branches; of a base nothing is left that could be on one
  pub cycles : NoneOnCycle (map branch_types p.kinds) (length p.kinds)
  pub elements : All (HasPlainElement p.kinds) p.kinds
  pub alternatives : All (HasApartAlternatives p.kinds) p.kinds
  pub places : AreDealt 0 (command_places p.commands) (event_places p.events)
