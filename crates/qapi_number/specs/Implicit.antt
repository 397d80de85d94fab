-- Types without names of their own, in the order of first need (QAPI code generation guide, "Schema syntax"; the order is
-- this project's own rule).
use Rattle.std.specs.Prelude.{ℕ, ◌==◌, Bool, true, false, not, ◌||◌, cond, List, [], ◌∷◌, ◌++◌, is_some}
use Rattle.std.specs.{List.enumerate_from, List.flat_map, List.fold, List.list_any}
use Rattle.qapi_define.specs.declared.definition.{Definition.Definition, Member.Member, Part.Part, Sort.Sort, TypeName.TypeName, Variant.Variant}
use Rattle.qapi_define.specs.declared.definition.Part.TheVariants as part
use Rattle.qapi_define.specs.declared.definition.Sort.TheVariants as sorts
use Rattle.qapi_define.specs.Saying.{members_of, data_of, returns_of}
use Rattle.qapi_number.specs.declared.implicit.ImplicitType.{ImplicitType}
use Rattle.qapi_number.specs.declared.implicit.ImplicitType.TheVariants as implicit
use Rattle.qapi_number.specs.TypeNames.{types_of, number_of_name}

abbrev pub same : ImplicitType → ImplicitType → Bool
same (implicit.Array a) (implicit.Array b) = a == b
same (implicit.Members a) (implicit.Members b) = a == b
same implicit.Empty implicit.Empty = true
same _ _ = false

-- the type without a name that a reference needs
abbrev pub implied : List Definition → TypeName → List ImplicitType
implied types of = cond of.is_array (implicit.Array (number_of_name types of.name) ∷ []) []

abbrev pub implied_by_members : List Definition → List Member → List ImplicitType
implied_by_members types members = flat_map (λ (m : Member). implied types m.of) members

abbrev pub implied_by_variants : List Definition → List Variant → List ImplicitType
implied_by_variants types variants = flat_map (λ (v : Variant). implied types v.of) variants

-- the members that a command or an event writes out are a type
abbrev pub written : Sort → ℕ → List ImplicitType
written sorts.Command at = implicit.Members at ∷ []
written sorts.Event at = implicit.Members at ∷ []
written _ at = []

-- what a part of the definition at the position needs
abbrev pub implied_by_part : List Definition → Sort → ℕ → Part → List ImplicitType
implied_by_part types sort at (part.BaseMembers members) = implied_by_members types members
implied_by_part types sort at (part.Members members) = written sort at ++ implied_by_members types members
implied_by_part types sort at (part.Variants variants) = implied_by_variants types variants
implied_by_part types sort at (part.Returns of) = implied types of
implied_by_part types sort at _ = []

-- it says what it takes or has
abbrev pub has_data : Definition → Bool
has_data d = is_some (members_of d) || is_some (data_of d)

-- a command says not what it takes or not what it returns, or an event not what it has
abbrev pub lacks_data : Sort → Definition → Bool
lacks_data sorts.Command d = not (has_data d) || not (is_some (returns_of d))
lacks_data sorts.Event d = not (has_data d)
lacks_data _ d = false

-- what the definition at the position needs: for each part in the order of the text, and then the empty object type
abbrev pub implied_by : List Definition → ℕ × Definition → List ImplicitType
implied_by types e = flat_map (implied_by_part types e.1.sort e.0) e.1.parts ++ cond (lacks_data e.1.sort e.1) (implicit.Empty ∷ []) []

-- one more, if it is new
abbrev pub with_implicit : List ImplicitType → ImplicitType → List ImplicitType
with_implicit known one = cond (list_any (same one) known) known (known ++ one ∷ [])

-- the types without a name, each once, in the order in which the definitions need them first
abbrev pub implicit_types_of : List Definition → List ImplicitType
implicit_types_of definitions = fold with_implicit [] (flat_map (implied_by (types_of definitions)) (enumerate_from 0 definitions))
