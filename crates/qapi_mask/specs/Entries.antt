-- What introspection tells of a type (QAPI code generation guide, "Client JSON Protocol introspection").
use Rattle.std.specs.Prelude.{ℕ, Bool, List, [], ◌∷◌, ◌++◌, map, Option, Some, None, option_map, codes}
use Rattle.std.specs.Option.{unwrap_or}
use Rattle.qapi_types.specs.declared.kind.{Kind.Kind, MemberDef.MemberDef, ValueDef.ValueDef}
use Rattle.qapi_types.specs.declared.kind.Kind.TheVariants as kinds
use Rattle.qm_admit.specs.Tags.{Case, Tag, tag_of}

pub record MemberEntry : Type 0 where
  pub name : List ℕ
  pub type : List ℕ
  pub optional : Bool
  pub features : List (List ℕ)

pub record ValueEntry : Type 0 where
  pub name : List ℕ
  pub features : List (List ℕ)

pub record Variant : Type 0 where
  pub case : List ℕ
  pub type : List ℕ

pub record TagEntry : Type 0 where
  pub name : List ℕ
  pub variants : List Variant

-- what an entry says of its type, in which other types go by their names
pub data Entry : Type 0 where
  Builtin : List ℕ → Entry
  Enum : List ValueEntry → List (List ℕ) → Entry
  Array : List ℕ → Entry
  Object : List MemberEntry → Option TagEntry → List (List ℕ) → Entry
  Alternate : List (List ℕ) → List (List ℕ) → Entry

abbrev pub member_entry : (ℕ → List ℕ) → MemberDef → MemberEntry
member_entry name_of m = record { name = m.name; type = name_of m.type_id; optional = m.optional; features = m.features }

abbrev pub value_entry : ValueDef → ValueEntry
value_entry v = record { name = v.name; features = v.features }

-- a value without a branch has the empty type
abbrev pub variant_of : (ℕ → List ℕ) → ℕ → Case → Variant
variant_of name_of empty c = record { case = c.name; type = name_of (unwrap_or c.branch empty) }

abbrev pub tag_entry : (ℕ → List ℕ) → ℕ → Tag → TagEntry
tag_entry name_of empty tag = record { name = tag.name; variants = map (variant_of name_of empty) tag.cases }

-- the entry of a type of the table, where types have these names, and one is the empty type
abbrev pub entry_of : List Kind → (ℕ → List ℕ) → ℕ → Kind → Entry
entry_of table name_of empty kinds.Str = Builtin (codes "string")
entry_of table name_of empty kinds.Number = Builtin (codes "number")
entry_of table name_of empty (kinds.Whole whole) = Builtin (codes "int")
entry_of table name_of empty kinds.Bool = Builtin (codes "boolean")
entry_of table name_of empty kinds.Null = Builtin (codes "null")
entry_of table name_of empty kinds.Any = Builtin (codes "value")
entry_of table name_of empty (kinds.Enum values features) = Enum (map value_entry values) features
entry_of table name_of empty (kinds.Array e) = Array (name_of e)
entry_of table name_of empty (kinds.Object def) = Object (map (member_entry name_of) def.members) (option_map (tag_entry name_of empty) (tag_of table (kinds.Object def))) def.features
entry_of table name_of empty (kinds.Alternate types features) = Alternate (map name_of types) features

abbrev pub refs_of_tag : ℕ → Option Tag → List ℕ
refs_of_tag empty None = []
refs_of_tag empty (Some tag) = map (λ (c : Case). unwrap_or c.branch empty) tag.cases

-- the types that the entry refers to, in its printed order
abbrev pub refs_of : List Kind → ℕ → Kind → List ℕ
refs_of table empty (kinds.Array e) = e ∷ []
refs_of table empty (kinds.Object def) = map (λ (m : MemberDef). m.type_id) def.members ++ refs_of_tag empty (tag_of table (kinds.Object def))
refs_of table empty (kinds.Alternate types features) = types
refs_of table empty kind = []
