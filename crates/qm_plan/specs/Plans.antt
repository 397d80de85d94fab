-- The plan of a call: the recipe of its command with the arguments filled in (this project's own rule).
use Rattle.std.specs.Prelude.{ℕ, Bool, false, List, [], codes, Option, Some, None, option_map, unwrap_or}
use Rattle.std.specs.{List.filter_map, List.list_any, Option.option_and_then, Option.option_map_or, Str.bytes_eq}
use Rattle.qm_json.specs.{declared.value.Json.Json, declared.value.Json.TheOpen.Json-F, declared.value.Json.out-Json, declared.value.Member.Member, Members.member_of}
use Rattle.qm_json.specs.declared.value.Json.TheVariants as json
use Rattle.qm_json.specs.declared.value.Json.TheOpen as layer
use Rattle.qm_plan.specs.{Templates.filled, declared.calls.Call.Call, declared.templates.Template.Template, declared.templates.Template.TheVariants.Const}
use Rattle.qm_plan.specs.declared.recipes.{Act.Act, Recipe.Recipe, Plan.Plan}
use Rattle.qm_plan.specs.declared.recipes.Act.TheVariants.{Set, Raise, Start, OnJob, Negotiate, Enable}

-- the arguments that a call gives, where it gives some
abbrev pub given_arguments : Call → Option Json
given_arguments call = member_of call.request (codes "arguments")

abbrev pub no_members : Json
no_members = json.Obj []

-- the arguments of a call; without any the empty object
abbrev pub arguments_of : Option Json → Json
arguments_of given = unwrap_or given no_members

-- the items of an array; any other value has none
abbrev pub layer_items : Json-F Json Member → List Json
layer_items (layer.Json-F.Arr items) = items
layer_items value = []

abbrev pub layer_string : Json-F Json Member → Option (List ℕ)
layer_string (layer.Json-F.Str bytes) = Some bytes
layer_string value = None

abbrev pub is_string : List ℕ → Json → Bool
is_string text value = option_map_or (bytes_eq text) (layer_string (out-Json value)) false

-- the member `enable` of the arguments holds the string `oob` (QMP specification, "Capabilities Negotiation")
abbrev pub enables_oob : Json → Bool
enables_oob arguments = option_map_or (λ value. list_any (is_string (codes "oob")) (layer_items (out-Json value))) (member_of arguments (codes "enable")) false

-- a template with the arguments filled in, the empty object where nothing is left of it
abbrev pub filled_or_empty : Json → Template → Template
filled_or_empty arguments template = unwrap_or (filled arguments template) (Const no_members)

-- the act with the arguments filled in; nothing is left of a cell's value that is absent
abbrev pub filled_act : Json → Act → Option Act
filled_act arguments (Set cell to) = option_map (Set cell) (filled arguments to)
filled_act arguments (Raise event payload) = Some (Raise event (option_and_then (filled arguments) payload))
filled_act arguments (Start id units ready manual) = Some (Start (filled_or_empty arguments id) units ready manual)
filled_act arguments (OnJob verb id) = Some (OnJob verb (filled_or_empty arguments id))
filled_act arguments Negotiate = Some (Enable (enables_oob arguments))
filled_act arguments act = Some act

-- the plan of a recipe and the arguments of a call
abbrev pub plan_of : Recipe → Json → Plan
plan_of recipe arguments = record { acts = filter_map (filled_act arguments) recipe.acts; ret = filled_or_empty arguments recipe.ret }
