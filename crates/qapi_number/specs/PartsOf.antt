-- The commands, events and types of definitions (QAPI code generation guide, "Commands", "Events").
use Rattle.std.specs.Prelude.{ℕ, Bool, true, false, cond, List, [], ◌∷◌, Option, Some, None}
use Rattle.std.specs.{List.enumerate_from, List.filter, List.flat_map}
use Rattle.qapi_types.specs.declared.parts.{ArgType.ArgType, CommandDef.CommandDef, EventDef.EventDef, Parts.Parts}
use Rattle.qapi_types.specs.declared.parts.ArgType.TheVariants as args
use Rattle.qapi_define.specs.declared.definition.{Definition.Definition, Member.Member, Sort.Sort, TypeName.TypeName}
use Rattle.qapi_define.specs.declared.definition.Sort.TheVariants as sorts
use Rattle.qapi_define.specs.Saying.{members_of, data_of, returns_of, features_of}
use Rattle.qapi_number.specs.declared.{numbering.Numbering.Numbering, table.Call.Call}
use Rattle.qapi_number.specs.declared.implicit.ImplicitType.TheVariants as implicit
use Rattle.qapi_number.specs.{Kinds.kinds_of, Numbering.number_of_implicit, Numbering.numbering_of, Numbering.type_number, TypeNames.number_of_name}

-- a command or an event is called by its name
abbrev pub is_call_sort : Sort → Bool
is_call_sort sorts.Command = true
is_call_sort sorts.Event = true
is_call_sort _ = false

-- commands and events, each with its position among the definitions, and before that its place among themselves
abbrev pub calls_of : List Definition → List (ℕ × (ℕ × Definition))
calls_of definitions = enumerate_from 0 (filter (λ (e : ℕ × Definition). is_call_sort e.1.sort) (enumerate_from 0 definitions))

-- a call as it is kept, with its position. This serves private functions.
abbrev pub call_told : Call → ℕ × Definition
call_told c = (c.at, c.definition.now)

-- the number of what is taken or had: members written out, else a type of a name, else the empty object type
abbrev pub data_number : Numbering → ℕ → Option (List Member) → Option (List ℕ) → ℕ
data_number n at (Some members) name = number_of_implicit n (implicit.Members at)
data_number n at None (Some name) = number_of_name n.types name
data_number n at None None = number_of_implicit n implicit.Empty

-- the number of what is returned, the empty object type where nothing is said
abbrev pub returned_number : Numbering → Option TypeName → ℕ
returned_number n (Some of) = type_number n of
returned_number n None = number_of_implicit n implicit.Empty

abbrev pub arg_of : Numbering → ℕ → Definition → ArgType
arg_of n at d = cond d.flags.generated (args.Typed (data_number n at (members_of d) (data_of d))) args.AnyObject

abbrev pub command_def : Numbering → ℕ → ℕ → Definition → CommandDef
command_def n place at d = record {
  name = d.name;
  place = place;
  arg = arg_of n at d;
  ret = returned_number n (returns_of d);
  allow_oob = d.flags.allow_oob;
  allow_preconfig = d.flags.allow_preconfig;
  features = features_of d;
}

abbrev pub event_def : Numbering → ℕ → ℕ → Definition → EventDef
event_def n place at d = record {
  name = d.name;
  place = place;
  arg = data_number n at (members_of d) (data_of d);
  features = features_of d;
}

abbrev pub command_in : Numbering → Sort → ℕ → ℕ → Definition → List CommandDef
command_in n sorts.Command place at d = command_def n place at d ∷ []
command_in n _ place at d = []

abbrev pub event_in : Numbering → Sort → ℕ → ℕ → Definition → List EventDef
event_in n sorts.Event place at d = event_def n place at d ∷ []
event_in n _ place at d = []

abbrev pub commands_of : Numbering → List Definition → List CommandDef
commands_of n definitions = flat_map (λ (e : ℕ × (ℕ × Definition)). command_in n e.1.1.sort e.0 e.1.0 e.1.1) (calls_of definitions)

abbrev pub events_of : Numbering → List Definition → List EventDef
events_of n definitions = flat_map (λ (e : ℕ × (ℕ × Definition)). event_in n e.1.1.sort e.0 e.1.0 e.1.1) (calls_of definitions)

-- the parts by a numbering
abbrev pub parts_by : Numbering → List Definition → Parts
parts_by n definitions = record { commands = commands_of n definitions; events = events_of n definitions; kinds = kinds_of n definitions }

-- the parts of all definitions
abbrev pub parts_of : List Definition → Parts
parts_of definitions = parts_by (numbering_of definitions) definitions
