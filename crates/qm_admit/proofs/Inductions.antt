-- Properties that pass from the values inside a layer to its own.
use Rattle.std.proofs.Common.{◌≡◌}
use Rattle.std.specs.List.{AllByRecursion}
use Rattle.qm_json.specs.declared.value.{Json.Json, Json.out-Json, Member.Member}
use Rattle.qm_json.specs.declared.value.Json.TheVariants as json
use Rattle.qm_json.specs.declared.value.Json.TheViews.{outs-Null, outs-Bool, outs-Int, outs-Num, outs-Str, outs-Arr, outs-Obj}
use Rattle.qm_json.specs.declared.value.Json.TheOpen.{Json-F}
use Rattle.qm_json.specs.declared.value.Json.TheOpen as layer
use Rattle.qm_json.proofs.Inductions.{every-Json}

-- each value inside the layer has the property
abbrev pub Inside : (Json → Type 0) → Json-F Json Member → Type 0
Inside P (layer.Json-F.Arr items) = AllByRecursion P items
Inside P (layer.Json-F.Obj members) = AllByRecursion (λ (m : Member). P m.value) members
Inside P y = Unit {0}

-- each value has a property that passes from the values inside a layer to its own
pub every-layer : (P : Json → Type 0) → ((v : Json) (y : Json-F Json Member) → out-Json v ≡ y → Inside P y → P v) → (v : Json) → P v
every-layer P h = every-Json P (record {
  null = h json.Null layer.Json-F.Null outs-Null tt;
  bool = λ b. h (json.Bool b) (layer.Json-F.Bool b) (outs-Bool b) tt;
  int = λ n. h (json.Int n) (layer.Json-F.Int n) (outs-Int n) tt;
  num = λ text. h (json.Num text) (layer.Json-F.Num text) (outs-Num text) tt;
  string = λ bytes. h (json.Str bytes) (layer.Json-F.Str bytes) (outs-Str bytes) tt;
  array = λ items all. h (json.Arr items) (layer.Json-F.Arr items) (outs-Arr items) all;
  object = λ members all. h (json.Obj members) (layer.Json-F.Obj members) (outs-Obj members) all;
})
