-- Values by their outermost layer (RFC 8259, section 3).
use Rattle.std.specs.Prelude.{ℕ, ℤ, List, Option, Some, None}
use Rattle.qm_json.specs.declared.value.{Json.Json, Json.out-Json, Json.TheOpen.Json-F, Member.Member}
use Rattle.qm_json.specs.declared.value.Json.TheOpen as layer
use Rattle.qapi_types.specs.declared.kind.JsonKind.{JsonKind, TheVariants.Null, TheVariants.Boolean, TheVariants.Number, TheVariants.String, TheVariants.Array, TheVariants.Object}

-- one layer of a value; of booleans and of numbers that are not whole nothing is told
pub data View : Type 0 where
  IsNull : View
  IsBool : View
  IsInt : ℤ → View
  IsNum : View
  IsStr : List ℕ → View
  IsArr : List Json → View
  IsObj : List Member → View

abbrev pub layer_view : Json-F Json Member → View
layer_view layer.Json-F.Null = IsNull
layer_view (layer.Json-F.Bool b) = IsBool
layer_view (layer.Json-F.Int n) = IsInt n
layer_view (layer.Json-F.Num text) = IsNum
layer_view (layer.Json-F.Str bytes) = IsStr bytes
layer_view (layer.Json-F.Arr items) = IsArr items
layer_view (layer.Json-F.Obj members) = IsObj members

abbrev pub view_of : Json → View
view_of value = layer_view (out-Json value)

abbrev pub string_in : View → Option (List ℕ)
string_in (IsStr bytes) = Some bytes
string_in view = None

-- the bytes of a string
abbrev pub string_of : Json → Option (List ℕ)
string_of value = string_in (view_of value)

-- the kind of JSON values that a layer is of, whatever stands inside
abbrev pub kind_in : {V M : Type 0} → Json-F V M → JsonKind
kind_in layer.Json-F.Null = Null
kind_in (layer.Json-F.Bool b) = Boolean
kind_in (layer.Json-F.Int n) = Number
kind_in (layer.Json-F.Num text) = Number
kind_in (layer.Json-F.Str bytes) = String
kind_in (layer.Json-F.Arr items) = Array
kind_in (layer.Json-F.Obj members) = Object
