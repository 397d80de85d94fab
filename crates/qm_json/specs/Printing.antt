-- The text of a value (RFC 8259, sections 3 to 7; its blanks are this project's own rule).
use Rattle.std.specs.Prelude.{ℕ, ◌^◌, ◌-◌, min, Bool, true, false, cond, List, [], ◌∷◌, ◌++◌, codes, flat_map}
use Rattle.std.specs.Fmt.{signed_decimal}
use Rattle.qm_json.specs.{Strings.quoted, declared.value.Json.Json}
use Rattle.qm_json.specs.declared.value.{Json.TheOpen.Json-F, Json.TheOpen.Member-F, Json.TheFolds.fold-Json, Json.TheFolds.fold-Member, Member.Member}
use Rattle.qm_json.specs.declared.value.Json.TheOpen as layer

abbrev pub after_comma : List ℕ → List ℕ
after_comma text = codes ", " ++ text

-- texts with a comma and a space between each two
abbrev pub joined : List (List ℕ) → List ℕ
joined [] = []
joined (text ∷ texts) = text ++ flat_map after_comma texts

-- a text that stands first, or later
abbrev pub placed : Bool → List ℕ → List ℕ
placed false text = text
placed true text = after_comma text

abbrev pub array_text : List (List ℕ) → List ℕ
array_text items = codes "[" ++ joined items ++ codes "]"

abbrev pub object_text : List (List ℕ) → List ℕ
object_text members = codes "{" ++ joined members ++ codes "}"

abbrev pub member_text : List ℕ → List ℕ → List ℕ
member_text name value = quoted name ++ codes ": " ++ value

abbrev pub member_layer : Member-F (List ℕ) (List ℕ) → List ℕ
member_layer m = member_text m.name m.value

-- one layer, with the text of each inner value in its place
abbrev pub print_layer : Json-F (List ℕ) (List ℕ) → List ℕ
print_layer layer.Json-F.Null = codes "null"
print_layer (layer.Json-F.Bool b) = cond b (codes "true") (codes "false")
print_layer (layer.Json-F.Int n) = signed_decimal n
print_layer (layer.Json-F.Num text) = text
print_layer (layer.Json-F.Str bytes) = quoted bytes
print_layer (layer.Json-F.Arr items) = array_text items
print_layer (layer.Json-F.Obj members) = object_text members

-- the text of a value
abbrev pub printed : Json → List ℕ
printed = fold-Json (List ℕ) (List ℕ) print_layer member_layer

-- the text of a member
abbrev pub printed_member : Member → List ℕ
printed_member = fold-Member (List ℕ) (List ℕ) print_layer member_layer

-- a length as far as 64 bits tell it
abbrev pub capped : ℕ → ℕ
capped n = min n (2 ^ 64 - 1)
