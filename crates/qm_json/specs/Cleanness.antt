-- Values that a text can spell (RFC 8259, sections 4, 6 and 8.1): strings and names are UTF-8, the
-- names of an object are distinct, a whole number is in its range, and any other number is a literal
-- that is not of such a whole number. That names are distinct, and the range, is this project's own rule.
use Rattle.std.specs.Prelude.{ℕ, Bool, true, not, ◌&&◌, List, [], ◌∷◌, map, IsTrue}
use Rattle.std.specs.{List.list_all, List.list_any, Str.bytes_eq, Str.is_utf8}
use Rattle.qm_json.specs.{Numbers.is_literal, Numbers.is_whole_literal, Numbers.is_in_whole_range, declared.value.Json.Json}
use Rattle.qm_json.specs.declared.value.{Json.TheOpen.Json-F, Json.TheOpen.Member-F, Json.TheFolds.fold-Json, Json.TheFolds.fold-Member, Member.Member}
use Rattle.qm_json.specs.declared.value.Json.TheOpen as layer

-- what the layer above asks of a member
pub record NameAndTest : Type 0 where
  pub name : List ℕ
  pub is_clean : Bool

-- no text is equal to one after it
abbrev pub are_distinct : List (List ℕ) → Bool
are_distinct [] = true
are_distinct (name ∷ names) =
    not (list_any (λ other. bytes_eq other name) names) && are_distinct names

abbrev pub clean_member_layer : Member-F Bool NameAndTest → NameAndTest
clean_member_layer m = record { name = m.name; is_clean = is_utf8 m.name && m.value }

-- one layer, with the test of each inner value in its place
abbrev pub clean_layer : Json-F Bool NameAndTest → Bool
clean_layer layer.Json-F.Null = true
clean_layer (layer.Json-F.Bool b) = true
clean_layer (layer.Json-F.Int n) = is_in_whole_range n
clean_layer (layer.Json-F.Num text) = is_literal text && not (is_whole_literal text)
clean_layer (layer.Json-F.Str bytes) = is_utf8 bytes
clean_layer (layer.Json-F.Arr items) = list_all (λ item. item) items
clean_layer (layer.Json-F.Obj members) =
    are_distinct (map (λ m. m.name) members) && list_all (λ m. m.is_clean) members

abbrev pub is_clean : Json → Bool
is_clean = fold-Json Bool NameAndTest clean_layer clean_member_layer

-- a member's name is UTF-8, and its value clean
abbrev pub is_clean_member : Member → Bool
is_clean_member m = (fold-Member Bool NameAndTest clean_layer clean_member_layer m).is_clean

-- a text can spell the value
abbrev pub IsClean : Json → Type 0
IsClean value = IsTrue (is_clean value)
