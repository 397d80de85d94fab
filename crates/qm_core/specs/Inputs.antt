-- What an input says (QMP specification, "Issuing Commands").
use Rattle.std.specs.Prelude.{ℕ, ◌^◌, ◌<◌, Bool, ◌||◌, List, codes, Option, Some, None, find}
use Rattle.std.specs.{Option.option_and_then, Str.bytes_eq}
use Rattle.qm_json.specs.declared.value.{Json.Json, Member.Member}
use Rattle.qm_json.specs.{Members.members_of, Members.member_of, Cleanness.IsClean}
use Rattle.qm_admit.specs.Views.{string_of}
use Rattle.qm_caps.specs.{Lanes.lane_of as value_lane_of, declared.mode.Lane.Lane, declared.mode.Lane.TheVariants.InBand, declared.mode.Mode.Mode}
use Rattle.qm_core.specs.declared.inputs.Input.{Input, TheVariants.Doc, TheVariants.Bad}
use Rattle.qm_core.specs.declared.inputs.{BadInput.BadInput, JsonWord.JsonWord, JsonWord.TheVariants.Expected, JsonWord.TheVariants.Duplicate, JsonWord.TheVariants.BadEscape, JsonWord.TheVariants.BadUtf8}
use Rattle.qm_core.specs.declared.inputs.BadInput.TheVariants as bad_input

-- the place of the byte that a fault tells
abbrev pub place_of : JsonWord → ℕ
place_of (Expected place) = place
place_of (Duplicate place) = place
place_of (BadEscape place) = place
place_of (BadUtf8 place) = place

-- that place has 64 bits, where one is told
abbrev pub IsPlaceable : BadInput → Type 0
IsPlaceable (bad_input.Frame word) = Unit {0}
IsPlaceable (bad_input.Json word) = place_of word < 2 ^ 64

-- a value in it is one that a text can spell, and a place one that a text can have
abbrev pub IsCleanInput : Input → Type 0
IsCleanInput (Doc value) = IsClean value
IsCleanInput (Bad bad) = IsPlaceable bad

-- the lane of an input that is admitted in a mode; what is no value is run in its turn
abbrev pub lane_of : Mode → Input → Lane
lane_of mode (Doc value) = value_lane_of mode value
lane_of mode (Bad bad) = InBand

-- a member that names a command
abbrev pub is_verb : Member → Bool
is_verb m = bytes_eq m.name (codes "execute") || bytes_eq m.name (codes "exec-oob")

-- the command that an object names, where it names one
abbrev pub command_name_of : Json → Option (List ℕ)
command_name_of value = option_and_then (λ m. string_of m.value) (find is_verb (members_of value))

-- the arguments that an object gives, where it gives some
abbrev pub arguments_of : Json → Option Json
arguments_of value = member_of value (codes "arguments")

-- both of an input
abbrev pub command_of : Input → Option (List ℕ)
command_of (Doc value) = command_name_of value
command_of (Bad bad) = None

-- the value that came, where one did
abbrev pub document_of : Input → Option Json
document_of (Doc value) = Some value
document_of (Bad bad) = None

abbrev pub arguments_in : Input → Option Json
arguments_in (Doc value) = arguments_of value
arguments_in (Bad bad) = None

-- the request's `id`, where it is an object with that member
abbrev pub id_in : Input → Option Json
id_in (Doc value) = member_of value (codes "id")
id_in (Bad bad) = None
