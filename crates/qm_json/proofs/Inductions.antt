-- Properties that pass from the parts of a value to the value.
use Rattle.std.proofs.Common.{ℕ, Bool, List, [], ◌∷◌, map, sym, subst}
use Rattle.std.specs.Prelude.{ℤ}
use Rattle.std.specs.List.{AllByRecursion}
use Rattle.qm_json.specs.declared.value.{Json.Json, Json.roll-Json, Json.map-Json, Member.Member}
use Rattle.qm_json.specs.declared.value.Json.TheVariants as json
use Rattle.qm_json.specs.declared.value.Json.TheVariants.{rolls-Null, rolls-Bool, rolls-Int, rolls-Num, rolls-Str, rolls-Arr, rolls-Obj}
use Rattle.qm_json.specs.declared.value.Json.{TheOpen.Json-F, TheFolds.ind-Json}
use Rattle.qm_json.specs.declared.value.Json.TheOpen as layer

-- what is asked of each sort of value, where its parts have the property
pub record Inductive (P : Json → Type 0) : Type 0 where
  pub null : P json.Null
  pub bool : (b : Bool) → P (json.Bool b)
  pub int : (n : ℤ) → P (json.Int n)
  pub num : (text : List ℕ) → P (json.Num text)
  pub string : (bytes : List ℕ) → P (json.Str bytes)
  pub array : (items : List Json) → AllByRecursion P items → P (json.Arr items)
  pub object : (members : List Member) → AllByRecursion (λ (m : Member). P m.value) members → P (json.Obj members)

each : {X : Type 0} (P : X → Type 0) (xs : List ((x : X) × P x)) → AllByRecursion P (map (λ e. e.0) xs)
each P [] = tt
each P (x ∷ xs) = (x.1, each P xs)

-- y is a layer with the property beside each part
layered : (P : Json → Type 0) → Inductive P → (y : Json-F ((v : Json) × P v) ((m : Member) × P m.value)) → P (roll-Json (map-Json ((v : Json) × P v) ((m : Member) × P m.value) Json Member (λ e. e.0) (λ e. e.0) y))
layered P h layer.Json-F.Null = subst P (sym rolls-Null) h.null
layered P h (layer.Json-F.Bool b) = subst P (sym (rolls-Bool b)) (h.bool b)
layered P h (layer.Json-F.Int n) = subst P (sym (rolls-Int n)) (h.int n)
layered P h (layer.Json-F.Num text) = subst P (sym (rolls-Num text)) (h.num text)
layered P h (layer.Json-F.Str bytes) = subst P (sym (rolls-Str bytes)) (h.string bytes)
layered P h (layer.Json-F.Arr items) = subst P (sym (rolls-Arr (map (λ e. e.0) items))) (h.array (map (λ e. e.0) items) (each P items))
layered P h (layer.Json-F.Obj members) = subst P (sym (rolls-Obj (map (λ e. e.0) members))) (h.object (map (λ e. e.0) members) (each (λ (m : Member). P m.value) members))

-- each value has a property that passes from its parts to it
pub every-Json : (P : Json → Type 0) → Inductive P → (v : Json) → P v
every-Json P h = ind-Json P (λ (m : Member). P m.value)
    (λ x y is. subst (λ z. P (roll-Json z)) is (layered P h y))
    (λ x y is. subst (λ z. P z.value) is y.value.1)
