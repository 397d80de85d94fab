-- What the types of definitions are, by their numbers (QAPI code generation guide, "Schema syntax").
use Rattle.std.specs.Prelude.{ℕ, zero, suc, ◌+◌, ◌==◌, cond, List, [], ◌∷◌, ◌++◌, map, length, codes, Option, Some, None, unwrap_or, slice_get, slice_index_or}
use Rattle.std.specs.{List.enumerate_from, List.flat_map, Option.option_map, Option.option_and_then}
use Rattle.qapi_types.specs.Lookups.{place_of}
use Rattle.qapi_types.specs.declared.kind.{Branch.Branch, Kind.Kind, MemberDef.MemberDef, ObjectDef.ObjectDef, ValueDef.ValueDef}
use Rattle.qapi_types.specs.declared.kind.Kind.TheVariants as kinds
use Rattle.qapi_types.specs.declared.kind.Whole.TheVariants as wholes
use Rattle.qapi_define.specs.declared.definition.{Definition.Definition, EnumValue.EnumValue, Member.Member, Sort.Sort, Variant.Variant}
use Rattle.qapi_define.specs.declared.definition.Sort.TheVariants as sorts
use Rattle.qapi_define.specs.Saying.{values_of, base_of, base_members_of, discriminator_of, members_of, variants_of, features_of}
use Rattle.qapi_number.specs.declared.{implicit.ImplicitType.ImplicitType, numbering.Numbering.Numbering}
use Rattle.qapi_number.specs.declared.implicit.ImplicitType.TheVariants as implicit
use Rattle.qapi_number.specs.{Numbering.type_number, TypeNames.type_names}

abbrev pub member_def : Numbering → Member → MemberDef
member_def n m = record { name = m.name; type_id = type_number n m.of; optional = m.optional; features = m.features }

abbrev pub member_defs : Numbering → List Member → List MemberDef
member_defs n members = map (member_def n) members

-- the members that a definition writes out: those of a union's base, those of a struct
abbrev pub own_members : Definition → List Member
own_members d = base_members_of d ++ unwrap_or (members_of d) []

-- the number of the base
abbrev pub base_number : List Definition → Definition → Option ℕ
base_number types d = option_and_then (place_of (type_names types)) (base_of d)

abbrev pub bases_of : List Definition → List (Option ℕ)
bases_of types = map (base_number types) types

abbrev pub base_at : List (Option ℕ) → ℕ → Option ℕ
base_at bases t = slice_index_or bases t None

-- a type after its bases, the last base first, at most so many in all
abbrev pub line_from : ℕ → List (Option ℕ) → Option ℕ → List ℕ
line_from zero bases t = []
line_from (suc n) bases None = []
line_from (suc n) bases (Some t) = line_from n bases (base_at bases t) ++ t ∷ []

abbrev pub own_members_at : List Definition → ℕ → List Member
own_members_at types t = unwrap_or (option_map own_members (slice_get types t)) []

-- the members of the type of the number, those of its bases first
abbrev pub all_members : List Definition → ℕ → List Member
all_members types t = flat_map (own_members_at types) (line_from (length types) (bases_of types) (Some t))

abbrev pub value_def : List ℕ → List (List ℕ) → ValueDef
value_def name features = record { name = name; features = features }

abbrev pub value_defs : List EnumValue → List ValueDef
value_defs values = map (λ (v : EnumValue). value_def v.name v.features) values

-- the values of the built-in enum QType
abbrev pub qtype_names : List (List ℕ)
qtype_names = codes "none" ∷ codes "qnull" ∷ codes "qnum" ∷ codes "qstring" ∷ codes "qdict" ∷ codes "qlist" ∷ codes "qbool" ∷ []

-- the number of QType, the last of the types with names
abbrev pub qtype_number : List Definition → ℕ
qtype_number types = length types + 15

-- the values of the enum of the number; none of any other type
abbrev pub value_names_at : List Definition → ℕ → List (List ℕ)
value_names_at types t = cond (t == qtype_number types) qtype_names
    (map (λ (v : EnumValue). v.name) (unwrap_or (option_map values_of (slice_get types t)) []))

-- the place of the discriminator in the members
abbrev pub tag_of : Definition → List MemberDef → Option ℕ
tag_of d members = option_and_then (place_of (map (λ (m : MemberDef). m.name) members)) (discriminator_of d)

-- the values that choose branches: those of the tag's enum
abbrev pub tag_names : List Definition → List MemberDef → Option ℕ → List (List ℕ)
tag_names types members tag = unwrap_or (option_map (λ (m : MemberDef). value_names_at types m.type_id) (option_and_then (slice_get members) tag)) []

-- a branch by the place of its value, 0 where there is none
abbrev pub branch_def : Numbering → List (List ℕ) → Variant → Branch
branch_def n names v = record { value = unwrap_or (place_of names v.name) 0; type_id = type_number n v.of }

abbrev pub object_with : Numbering → Definition → List MemberDef → ObjectDef
object_with n d members = record {
  members = members;
  tag = tag_of d members;
  branches = map (branch_def n (tag_names n.types members (tag_of d members))) (variants_of d);
  features = features_of d;
}

-- the alternatives of an alternate
abbrev pub alternatives : Numbering → Definition → List ℕ
alternatives n d = map (λ (v : Variant). type_number n v.of) (variants_of d)

-- what the definition of the number is: an enum, an alternate, or else a struct or a union
abbrev pub kind_defined : Numbering → Sort → ℕ → Definition → Kind
kind_defined n sorts.Enum t d = kinds.Enum (value_defs (values_of d)) (features_of d)
kind_defined n sorts.Alternate t d = kinds.Alternate (alternatives n d) (features_of d)
kind_defined n _ t d = kinds.Object (object_with n d (member_defs n (all_members n.types t)))

abbrev pub whole_kinds : List Kind
whole_kinds =
    kinds.Whole wholes.Int ∷ kinds.Whole wholes.Int8 ∷ kinds.Whole wholes.Int16 ∷ kinds.Whole wholes.Int32
    ∷ kinds.Whole wholes.Int64 ∷ kinds.Whole wholes.Uint8 ∷ kinds.Whole wholes.Uint16 ∷ kinds.Whole wholes.Uint32
    ∷ kinds.Whole wholes.Uint64 ∷ kinds.Whole wholes.Size ∷ []

abbrev pub qtype_kind : Kind
qtype_kind = kinds.Enum (map (λ name. value_def name []) qtype_names) []

-- the built-in types in the order of their names
abbrev pub builtin_kinds : List Kind
builtin_kinds = kinds.Str ∷ kinds.Number ∷ (whole_kinds ++ kinds.Bool ∷ kinds.Null ∷ kinds.Any ∷ qtype_kind ∷ [])

-- an object type of members alone
abbrev pub plain_object : List MemberDef → Kind
plain_object members = kinds.Object (record { members = members; tag = None; branches = []; features = [] })

-- the members that the command or event at the position writes out
abbrev pub members_at : List Definition → ℕ → List Member
members_at definitions at = unwrap_or (option_and_then members_of (slice_get definitions at)) []

-- what a type without a name is
abbrev pub implicit_kind : Numbering → List Definition → ImplicitType → Kind
implicit_kind n definitions (implicit.Array e) = kinds.Array e
implicit_kind n definitions (implicit.Members at) = plain_object (member_defs n (members_at definitions at))
implicit_kind n definitions implicit.Empty = plain_object []

abbrev pub defined_kinds : Numbering → List Kind
defined_kinds n = map (λ (e : ℕ × Definition). kind_defined n e.1.sort e.0 e.1) (enumerate_from 0 n.types)

-- all types by their numbers
abbrev pub kinds_of : Numbering → List Definition → List Kind
kinds_of n definitions = defined_kinds n ++ builtin_kinds ++ map (implicit_kind n definitions) n.implicit
