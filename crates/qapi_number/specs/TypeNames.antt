-- Types that have names, by their numbers: those that are defined, and then the built-in types (QAPI code generation
-- guide, "Schema syntax", "Built-in Types"; the order is this project's own rule).
use Rattle.std.specs.Prelude.{ℕ, Bool, true, false, List, [], ◌∷◌, ◌++◌, map, codes, unwrap_or}
use Rattle.std.specs.List.{filter}
use Rattle.qapi_types.specs.Lookups.{place_of}
use Rattle.qapi_define.specs.declared.definition.{Definition.Definition, Sort.Sort}
use Rattle.qapi_define.specs.declared.definition.Sort.TheVariants as sorts

-- enums, structs, unions and alternates are types
abbrev pub is_type_sort : Sort → Bool
is_type_sort sorts.Command = false
is_type_sort sorts.Event = false
is_type_sort _ = true

-- the definitions of types in their order
abbrev pub types_of : List Definition → List Definition
types_of definitions = filter (λ (d : Definition). is_type_sort d.sort) definitions

-- the names of the built-in types in their order
abbrev pub builtin_names : List (List ℕ)
builtin_names =
    codes "str" ∷ codes "number" ∷ codes "int" ∷ codes "int8" ∷ codes "int16" ∷ codes "int32" ∷ codes "int64"
    ∷ codes "uint8" ∷ codes "uint16" ∷ codes "uint32" ∷ codes "uint64" ∷ codes "size" ∷ codes "bool" ∷ codes "null"
    ∷ codes "any" ∷ codes "QType" ∷ []

-- the names of types by their numbers
abbrev pub type_names : List Definition → List (List ℕ)
type_names types = map (λ (d : Definition). d.name) types ++ builtin_names

-- the number of the first type of the name; 0 where there is none
abbrev pub number_of_name : List Definition → List ℕ → ℕ
number_of_name types name = unwrap_or (place_of (type_names types) name) 0
