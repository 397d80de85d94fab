-- What a walk through a value tells. It serves private functions.
use Rattle.std.specs.Prelude.{◌≡◌, ℕ, Bool, true, false, List, [], map, Option, Some, None, option_map}
use Rattle.std.specs.{List.position_from, Option.option_map_or, Str.bytes_eq}
use Rattle.qm_json.specs.declared.value.{Json.Json, Json.out-Json, Member.Member, Json.TheOpen.Json-F}
use Rattle.qm_json.specs.declared.value.Json.TheOpen as layer
use Rattle.qapi_types.specs.declared.kind.Kind.{Kind}
use Rattle.qapi_types.specs.declared.kind.Kind.TheVariants as kinds
use Rattle.qapi_types.specs.Types.{kind_of}
use Rattle.qm_admit.specs.declared.verdict.{Fault.Fault}
use Rattle.qm_admit.specs.declared.path.{PathStep.PathStep}
use Rattle.qm_admit.specs.Misfits.{Misfit, Inner, NamedInner, here, inner_of, kind_misfit, choices_of, items_misfit}

-- the fault and the way are those of the misfit; where there is none, the way has no step
pub record Tells (found : Option Misfit) (answer : Option Fault) (way : List PathStep) : Type 0 where
  pub fault : answer ≡ option_map (λ (m : Misfit). m.fault) found
  pub path : way ≡ option_map_or (λ (m : Misfit). m.path) found []

-- the fault of a value itself
abbrev pub at_once : Option Fault → Option Misfit
at_once None = None
at_once (Some fault) = here fault

abbrev pub named_inner : List Kind → Member → NamedInner
named_inner table m = record { name = m.name; inner = inner_of table m.value }

-- the given members, with what is asked of each value
abbrev pub inners : List Kind → List Member → List NamedInner
inners table given = map (named_inner table) given

-- where the first given member of the name stands
abbrev pub place_of_name : List Member → List ℕ → Option ℕ
place_of_name given name = position_from (λ (m : Member). bytes_eq m.name name) 0 given

-- one layer, with what is asked of each value in it in its place
unfoldable pub asked : List Kind → Json-F Json Member → Json-F Inner NamedInner
asked table layer.Json-F.Null = layer.Json-F.Null
asked table (layer.Json-F.Bool b) = layer.Json-F.Bool b
asked table (layer.Json-F.Int n) = layer.Json-F.Int n
asked table (layer.Json-F.Num text) = layer.Json-F.Num text
asked table (layer.Json-F.Str bytes) = layer.Json-F.Str bytes
asked table (layer.Json-F.Arr items) = layer.Json-F.Arr (map (inner_of table) items)
asked table (layer.Json-F.Obj given) = layer.Json-F.Obj (inners table given)

-- the first fault of a value at a type that is walked as it is, no alternate
unfoldable pub plain_misfit : List Kind → ℕ → Json-F Inner NamedInner → Option Misfit
plain_misfit table t value = kind_misfit table t (kind_of table t) value

abbrev pub value_misfit : List Kind → ℕ → Json → Option Misfit
value_misfit table t value = plain_misfit table t (asked table (out-Json value))

-- the same of an array, whose items are these
abbrev pub array_misfit : List Kind → ℕ → List Json → Option Misfit
array_misfit table t items = plain_misfit table t (layer.Json-F.Arr (map (inner_of table) items))

abbrev pub item_list_misfit : List Kind → ℕ → List Json → Option Misfit
item_list_misfit table e items = items_misfit e 0 (map (inner_of table) items)

-- the same of an object, whose members are these
abbrev pub given_object_misfit : List Kind → ℕ → List Member → Option Misfit
given_object_misfit table t given = plain_misfit table t (layer.Json-F.Obj (inners table given))

-- the types whose members count for these given ones
abbrev pub chosen_types : List Kind → List Member → ℕ → List ℕ
chosen_types table given t = choices_of table (inners table given) t

-- the type is that of all values
abbrev pub is_any : Kind → Bool
is_any kinds.Any = true
is_any kind = false
