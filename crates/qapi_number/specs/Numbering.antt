-- The numbers of types: those with names, and after them those without (this project's own rule).
use Rattle.std.specs.Prelude.{ℕ, ◌+◌, cond, List, length, position, unwrap_or}
use Rattle.std.specs.Option.{option_map}
use Rattle.qapi_define.specs.declared.definition.{Definition.Definition, TypeName.TypeName}
use Rattle.qapi_number.specs.declared.{implicit.ImplicitType.ImplicitType, numbering.Numbering.Numbering}
use Rattle.qapi_number.specs.declared.implicit.ImplicitType.TheVariants as implicit
use Rattle.qapi_number.specs.{Implicit.implicit_types_of, Implicit.same, TypeNames.types_of, TypeNames.type_names, TypeNames.number_of_name}

-- the numbering of all definitions
abbrev pub numbering_of : List Definition → Numbering
numbering_of definitions = record { types = types_of definitions; implicit = implicit_types_of definitions }

-- the number of a type without a name; 0 where it is not there
abbrev pub number_of_implicit : Numbering → ImplicitType → ℕ
number_of_implicit n one = unwrap_or (option_map (λ p. length (type_names n.types) + p) (position (same one) n.implicit)) 0

-- the number of the type that is referred to
abbrev pub type_number : Numbering → TypeName → ℕ
type_number n of = cond of.is_array (number_of_implicit n (implicit.Array (number_of_name n.types of.name))) (number_of_name n.types of.name)
