-- Commands, events and variants as the code has them. This serves private functions.
use Rattle.std.specs.Prelude.{◌<◌, ℕ, List, [], ◌∷◌}
use Rattle.qapi_types.specs.{declared.kind.ValueDef.ValueDef, Goodness.CommandBelow}
use Rattle.qapi_mask.specs.{Calls.Call, Calls.Command, Calls.Event, Printing.variant_json}
use Rattle.qm_json.specs.declared.value.Json.{Json}

-- what the command or event refers to is below n
abbrev pub IsBelow : ℕ → Call → Type 0
IsBelow n (Command c) = CommandBelow n c
IsBelow n (Event e) = e.arg < n

-- the variants of values and of the types that they bring
abbrev pub variant_jsons : (ℕ → List ℕ) → List ValueDef → List ℕ → List Json
variant_jsons name_of [] types = []
variant_jsons name_of (v ∷ values) [] = []
variant_jsons name_of (v ∷ values) (t ∷ types) = variant_json (record { case = v.name; type = name_of t }) ∷ variant_jsons name_of values types
