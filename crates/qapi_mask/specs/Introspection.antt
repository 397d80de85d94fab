-- The introspection array of a schema (QAPI code generation guide, "Client JSON Protocol introspection").
use Rattle.std.specs.Prelude.{ℕ, Bool, true, false, List, [], ◌∷◌, ◌++◌, map, codes}
use Rattle.qm_json.specs.declared.value.{Json.Json, Member.Member}
use Rattle.qm_json.specs.declared.value.Json.TheVariants as json
use Rattle.qapi_types.specs.{declared.parts.Parts.Parts, Types.kind_of}
use Rattle.qapi_mask.specs.{Calls.Call, Calls.Command, Calls.Event, Calls.calls_of, Entries.Entry, Entries.entry_of, Naming.argument_type, Naming.listed_of, Naming.mask_of}
use Rattle.qapi_types.specs.Prelude.{empty_of}
use Rattle.qapi_mask.specs.Printing.{with_value, with_text, features_members, entry_json}

abbrev pub oob_members : Bool → List Member
oob_members false = []
oob_members true = with_value (codes "allow-oob") (json.Bool true) ∷ []

-- the object that tells of a command or an event
abbrev pub call_json : Parts → Call → Json
call_json p (Command c) = json.Obj (with_text (codes "name") c.name ∷ with_text (codes "meta-type") (codes "command") ∷
    with_text (codes "arg-type") (mask_of p (argument_type p.kinds c.arg)) ∷ with_text (codes "ret-type") (mask_of p c.ret) ∷ (oob_members c.allow_oob ++ features_members c.features))
call_json p (Event e) = json.Obj (with_text (codes "name") e.name ∷ with_text (codes "meta-type") (codes "event") ∷
    with_text (codes "arg-type") (mask_of p e.arg) ∷ features_members e.features)

abbrev pub entry_at : Parts → ℕ → Entry
entry_at p t = entry_of p.kinds (mask_of p) (empty_of p) (kind_of p.kinds t)

abbrev pub type_json : Parts → ℕ → Json
type_json p t = entry_json (mask_of p t) (entry_at p t)

-- commands and events in the order of their definitions, and then the types in the order in which entries first refer to them
abbrev pub introspection_of : Parts → Json
introspection_of p = json.Arr (map (call_json p) (calls_of p) ++ map (type_json p) (listed_of p))
