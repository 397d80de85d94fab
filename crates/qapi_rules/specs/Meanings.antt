-- What names stand for (QAPI code generation guide, "Built-in Types", "Schema syntax").
use Rattle.std.specs.Prelude.{ℕ, ◌==◌, Bool, true, false, cond, codes, List, map, [], ◌∷◌, slice_get, Option, Some, None}
use Rattle.std.specs.{List.list_any, Option.option_and_then, Str.bytes_eq}
use Rattle.qapi_define.specs.declared.definition.{Definition.Definition, EnumValue.EnumValue, Sort.Sort}
use Rattle.qapi_define.specs.declared.definition.Sort.TheVariants as sorts
use Rattle.qapi_define.specs.Saying.{values_of}
use Rattle.qapi_types.specs.declared.kind.JsonKind.{JsonKind}
use Rattle.qapi_types.specs.declared.kind.JsonKind.TheVariants as json
use Rattle.qapi_types.specs.Lookups.{place_of}
use Rattle.qapi_rules.specs.BuiltIns.{is_built_in}
use Rattle.qapi_rules.specs.declared.meaning.{BuiltIn.BuiltIn, Meaning.Meaning}
use Rattle.qapi_rules.specs.declared.meaning.BuiltIn.TheVariants as built_ins
use Rattle.qapi_rules.specs.declared.meaning.Meaning.TheVariants as found

-- what a name stands for
pub data Entity : Type 0 where
  nothing : Entity
  built_in : BuiltIn → Entity
  defined : Definition → Entity

abbrev pub meant : Meaning → Entity
meant found.Nothing = nothing
meant (found.BuiltIn of) = built_in of
meant (found.Defined d) = defined d.now

abbrev pub names_of : List Definition → List (List ℕ)
names_of defs = map (λ (d : Definition). d.name) defs

-- the first definition of the name
abbrev pub definition_of : List Definition → List ℕ → Option Definition
definition_of defs name = option_and_then (slice_get defs) (place_of (names_of defs) name)

-- the values of a built-in type that are all of one JSON kind
abbrev pub simple_kind : List ℕ → JsonKind
simple_kind name =
    cond (bytes_eq name (codes "str")) json.String (cond (bytes_eq name (codes "bool")) json.Boolean (cond (bytes_eq name (codes "null")) json.Null json.Number))

-- a built-in type of the name
abbrev pub built_in_of : List ℕ → BuiltIn
built_in_of name =
    cond (bytes_eq name (codes "any")) built_ins.Any (cond (bytes_eq name (codes "QType")) built_ins.QType (built_ins.Simple (simple_kind name)))

abbrev pub entity_of_definition : Option Definition → Entity
entity_of_definition None = nothing
entity_of_definition (Some d) = defined d

-- a built-in type, or else what the definition defines
abbrev pub entity_by : List ℕ → Option Definition → Entity
entity_by name d = cond (is_built_in name) (built_in (built_in_of name)) (entity_of_definition d)

-- what the name stands for: a built-in type, or what the first definition with the name defines
abbrev pub entity_of : List Definition → List ℕ → Entity
entity_of defs name = entity_by name (definition_of defs name)

abbrev pub is_type_sort : Sort → Bool
is_type_sort sorts.Command = false
is_type_sort sorts.Event = false
is_type_sort sort = true

abbrev pub is_enum_sort : Sort → Bool
is_enum_sort sorts.Enum = true
is_enum_sort sort = false

abbrev pub is_struct_sort : Sort → Bool
is_struct_sort sorts.Struct = true
is_struct_sort sort = false

abbrev pub is_union_sort : Sort → Bool
is_union_sort sorts.Union = true
is_union_sort sort = false

abbrev pub is_alternate_sort : Sort → Bool
is_alternate_sort sorts.Alternate = true
is_alternate_sort sort = false

-- commands and events are no types
abbrev pub is_type : Entity → Bool
is_type nothing = false
is_type (built_in of) = true
is_type (defined d) = is_type_sort d.sort

abbrev pub is_struct : Entity → Bool
is_struct (defined d) = is_struct_sort d.sort
is_struct entity = false

abbrev pub is_union : Entity → Bool
is_union (defined d) = is_union_sort d.sort
is_union entity = false

-- all values, or those of several types
abbrev pub is_mixed : Entity → Bool
is_mixed nothing = false
is_mixed (built_in built_ins.Any) = true
is_mixed (built_in of) = false
is_mixed (defined d) = is_alternate_sort d.sort

abbrev pub is_enum : Entity → Bool
is_enum nothing = false
is_enum (built_in built_ins.QType) = true
is_enum (built_in of) = false
is_enum (defined d) = is_enum_sort d.sort

-- the values of QType
abbrev pub qtype_values : List (List ℕ)
qtype_values = codes "none" ∷ codes "qnull" ∷ codes "qnum" ∷ codes "qstring" ∷ codes "qdict" ∷ codes "qlist" ∷ codes "qbool" ∷ []

abbrev pub is_of_qtype : List ℕ → Bool
is_of_qtype name = list_any (bytes_eq name) qtype_values

abbrev pub defines_value : List ℕ → Definition → Bool
defines_value name d = list_any (λ (value : EnumValue). bytes_eq value.name name) (values_of d)

-- the enum has the value
abbrev pub has_value : List ℕ → Entity → Bool
has_value name nothing = false
has_value name (built_in built_ins.QType) = is_of_qtype name
has_value name (built_in of) = false
has_value name (defined d) = defines_value name d

abbrev pub kind_of_sort : Sort → Option JsonKind
kind_of_sort sorts.Enum = Some json.String
kind_of_sort sorts.Struct = Some json.Object
kind_of_sort sorts.Union = Some json.Object
kind_of_sort sort = None

-- the kind of JSON values that are of the type, where it is one kind
abbrev pub kind_of : Entity → Option JsonKind
kind_of nothing = None
kind_of (built_in (built_ins.Simple kind)) = Some kind
kind_of (built_in built_ins.QType) = Some json.String
kind_of (built_in built_ins.Any) = None
kind_of (defined d) = kind_of_sort d.sort

-- the kinds in an order
abbrev pub kind_number : JsonKind → ℕ
kind_number json.Null = 0
kind_number json.Boolean = 1
kind_number json.Number = 2
kind_number json.String = 3
kind_number json.Array = 4
kind_number json.Object = 5

abbrev pub are_same : JsonKind → JsonKind → Bool
are_same a b = kind_number a == kind_number b
