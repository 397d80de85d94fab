-- How deep a value is nested (RFC 8259, section 9).
use Rattle.std.specs.Prelude.{ℕ, ◌+◌, max, List, [], ◌∷◌}
use Rattle.qm_json.specs.declared.value.{Json.Json, Json.TheOpen.Json-F, Json.TheOpen.Member-F, Json.TheFolds.fold-Json, Json.TheFolds.fold-Member, Member.Member}
use Rattle.qm_json.specs.declared.value.Json.TheOpen as layer

-- the greatest of some depths, and 0 of none
abbrev pub deepest : List ℕ → ℕ
deepest [] = 0
deepest (depth ∷ depths) = max depth (deepest depths)

-- one layer, with the depth of each inner value in its place
abbrev pub depth_layer : Json-F ℕ ℕ → ℕ
depth_layer (layer.Json-F.Arr items) = deepest items + 1
depth_layer (layer.Json-F.Obj members) = deepest members + 1
depth_layer value = 0

abbrev pub depth_member_layer : Member-F ℕ ℕ → ℕ
depth_member_layer m = m.value

-- how many arrays and objects are open at a time in the text of a value, at most
abbrev pub depth : Json → ℕ
depth = fold-Json ℕ ℕ depth_layer depth_member_layer

-- the depth of a member's value
abbrev pub depth_member : Member → ℕ
depth_member = fold-Member ℕ ℕ depth_layer depth_member_layer
