-- How deep values are nested, layer by layer.
use Rattle.std.proofs.Common.{◌≡◌, ℕ, ◌+◌, ◌≤◌, Bool, List, [], ◌∷◌, ◌++◌, map, ap, sym, ◌∙◌, arith}
use Rattle.std.specs.Prelude.{ℤ}
use Rattle.qm_json.specs.declared.value.{Json.Json, Member.Member, Json.TheFolds.fold-roll-Json, Json.TheFolds.fold-roll-Member}
use Rattle.qm_json.specs.declared.value.Json.TheVariants as json
use Rattle.qm_json.specs.declared.value.Json.TheOpen as layer
use Rattle.qm_json.specs.declared.value.Json.TheVariants.{rolls-Null, rolls-Bool, rolls-Int, rolls-Num, rolls-Str, rolls-Arr, rolls-Obj}
use Rattle.qm_json.specs.Nesting.{depth, depth_member, depth_layer, depth_member_layer, deepest}

pub depth-Null : depth json.Null ≡ 0
depth-Null = ap depth (sym rolls-Null) ∙ fold-roll-Json ℕ ℕ depth_layer depth_member_layer layer.Json-F.Null

pub depth-Bool : (b : Bool) → depth (json.Bool b) ≡ 0
depth-Bool b = ap depth (sym (rolls-Bool b)) ∙ fold-roll-Json ℕ ℕ depth_layer depth_member_layer (layer.Json-F.Bool b)

pub depth-Int : (n : ℤ) → depth (json.Int n) ≡ 0
depth-Int n = ap depth (sym (rolls-Int n)) ∙ fold-roll-Json ℕ ℕ depth_layer depth_member_layer (layer.Json-F.Int n)

pub depth-Num : (text : List ℕ) → depth (json.Num text) ≡ 0
depth-Num text = ap depth (sym (rolls-Num text)) ∙ fold-roll-Json ℕ ℕ depth_layer depth_member_layer (layer.Json-F.Num text)

pub depth-Str : (bytes : List ℕ) → depth (json.Str bytes) ≡ 0
depth-Str bytes = ap depth (sym (rolls-Str bytes)) ∙ fold-roll-Json ℕ ℕ depth_layer depth_member_layer (layer.Json-F.Str bytes)

pub depth-Arr : (items : List Json) → depth (json.Arr items) ≡ deepest (map depth items) + 1
depth-Arr items = ap depth (sym (rolls-Arr items)) ∙ fold-roll-Json ℕ ℕ depth_layer depth_member_layer (layer.Json-F.Arr items)

pub depth-Obj : (members : List Member) → depth (json.Obj members) ≡ deepest (map depth_member members) + 1
depth-Obj members = ap depth (sym (rolls-Obj members)) ∙ fold-roll-Json ℕ ℕ depth_layer depth_member_layer (layer.Json-F.Obj members)

pub depth_member-is : (m : Member) → depth_member m ≡ depth m.value
depth_member-is m = fold-roll-Member ℕ ℕ depth_layer depth_member_layer record { name = m.name; value = m.value }

-- one more depth within a limit
pub deepest-more : {X : Type 0} (f : X → ℕ) (xs : List X) (x : X) (d : ℕ) → deepest (map f xs) ≤ d → f x ≤ d → deepest (map f (xs ++ x ∷ [])) ≤ d
deepest-more f [] x d h k = omega (arith, k)
deepest-more f (y ∷ xs) x d h k = omega (arith, h, deepest-more f xs x d (omega (arith, h)) k)
