-- Members of objects by their names (RFC 8259, section 4).
use Rattle.std.specs.Prelude.{ℕ, Bool, List, [], Option, option_map, find}
use Rattle.std.specs.{List.list_any, Str.bytes_eq}
use Rattle.qm_json.specs.declared.value.{Json.Json, Json.TheOpen.Json-F, Json.out-Json, Member.Member}
use Rattle.qm_json.specs.declared.value.Json.TheOpen as layer

-- some member has the name
abbrev pub has_name : List Member → List ℕ → Bool
has_name members name = list_any (λ m. bytes_eq m.name name) members

-- the value of the first member of the name
abbrev pub value_in : List Member → List ℕ → Option Json
value_in members name = option_map (λ m. m.value) (find (λ m. bytes_eq m.name name) members)

abbrev pub layer_members : Json-F Json Member → List Member
layer_members (layer.Json-F.Obj members) = members
layer_members value = []

-- the members of an object; any other value has none
abbrev pub members_of : Json → List Member
members_of value = layer_members (out-Json value)

-- the value of an object's first member of the name
abbrev pub member_of : Json → List ℕ → Option Json
member_of value name = value_in (members_of value) name
