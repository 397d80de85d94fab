-- What a table says of its types (QAPI code generation guide, "Schema syntax").
use Rattle.std.specs.Prelude.{ℕ, Bool, true, false, List, [], map, slice_get, slice_index_or, Option, Some, None}
use Rattle.std.specs.Option.{option_and_then}
use Rattle.qapi_types.specs.declared.kind.{Branch.Branch, JsonKind.JsonKind, Kind.Kind, MemberDef.MemberDef, ValueDef.ValueDef}
use Rattle.qapi_types.specs.declared.kind.JsonKind.TheVariants as json
use Rattle.qapi_types.specs.declared.kind.Kind.TheVariants as kinds

-- what the type of the number is; a number past the table's end is taken for that of null
abbrev pub kind_of : List Kind → ℕ → Kind
kind_of table t = slice_index_or table t kinds.Null

abbrev pub is_object : Kind → Bool
is_object (kinds.Object def) = true
is_object kind = false

abbrev pub is_enum : Kind → Bool
is_enum (kinds.Enum values features) = true
is_enum kind = false

abbrev pub is_array : Kind → Bool
is_array (kinds.Array e) = true
is_array kind = false

-- the members of an object type, those of its bases first
abbrev pub members_of : Kind → List MemberDef
members_of (kinds.Object def) = def.members
members_of kind = []

abbrev pub branches_of : Kind → List Branch
branches_of (kinds.Object def) = def.branches
branches_of kind = []

abbrev pub values_of : Kind → List ValueDef
values_of (kinds.Enum values features) = values
values_of kind = []

abbrev pub member_names : Kind → List (List ℕ)
member_names kind = map (λ (m : MemberDef). m.name) (members_of kind)

abbrev pub value_names : Kind → List (List ℕ)
value_names kind = map (λ (v : ValueDef). v.name) (values_of kind)

-- the types whose members the branches add
abbrev pub branch_types : Kind → List ℕ
branch_types kind = map (λ (b : Branch). b.type_id) (branches_of kind)

abbrev pub tag_position : Kind → Option ℕ
tag_position (kinds.Object def) = def.tag
tag_position kind = None

-- the member whose value chooses the branch
abbrev pub tag_member : Kind → Option MemberDef
tag_member kind = option_and_then (λ p. slice_get (members_of kind) p) (tag_position kind)

abbrev pub values_at : List Kind → Option MemberDef → List ValueDef
values_at table None = []
values_at table (Some m) = values_of (kind_of table m.type_id)

-- the values of the tag's enum; none without a tag
abbrev pub tag_values : List Kind → Kind → List ValueDef
tag_values table kind = values_at table (tag_member kind)

-- the kind of JSON values that are of the type, where it is one kind
abbrev pub json_kind_of : Kind → Option JsonKind
json_kind_of kinds.Str = Some json.String
json_kind_of kinds.Number = Some json.Number
json_kind_of (kinds.Whole whole) = Some json.Number
json_kind_of kinds.Bool = Some json.Boolean
json_kind_of kinds.Null = Some json.Null
json_kind_of kinds.Any = None
json_kind_of (kinds.Enum values features) = Some json.String
json_kind_of (kinds.Array e) = Some json.Array
json_kind_of (kinds.Object def) = Some json.Object
json_kind_of (kinds.Alternate types features) = None
