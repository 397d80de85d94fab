-- The verdict on a request: the first check that it fails, or the command that takes effect (QMP
-- specification, "Issuing Commands" and "Capabilities Negotiation"; the order of the checks is this
-- project's own rule).
use Rattle.std.specs.Prelude.{ℕ, Bool, false, not, if◌then◌else◌, ◌&&◌, ◌||◌, List, [], ◌∷◌, codes, Option, Some, None, option_map, find, ◌<◌, length, slice_get}
use Rattle.std.specs.{Option.option_and_then, Option.option_map_or, Str.bytes_eq}
use Rattle.qm_json.specs.{declared.value.Json.Json, declared.value.Member.Member, Members.has_name, Members.members_of}
use Rattle.qapi_types.specs.{Lookups.place_of, Lookups.command_names, declared.parts.CommandDef.CommandDef}
use Rattle.qm_admit.specs.declared.verdict.Verdict.{Verdict as Admission, TheVariants.Yes, TheVariants.No}
use Rattle.qm_admit.specs.declared.{path.PathStep.PathStep, verdict.Fault.Fault}
use Rattle.qm_admit.specs.{Misfits.command_misfit, Misfits.is_object, Misfits.verdict_of as admission_of, Views.string_of}
use Rattle.qm_caps.specs.{Lanes.is_in_band, Lanes.lane_of, Modes.is_negotiating, Modes.may_be_out_of_band, declared.mode.Lane.Lane, declared.mode.Mode.Mode}
use Rattle.qm_core.specs.{Inputs.is_verb, Inputs.arguments_of, declared.inputs.Input.Input, declared.world.World.World}
use Rattle.qm_core.specs.declared.inputs.{BadInput.BadInput, Input.TheVariants.Doc, Input.TheVariants.Bad}

-- why a request is answered by an error; names are those of the request, and the way to a fault of
-- the arguments is its steps
pub data Refusal : Type 0 where
  Malformed : BadInput → Refusal
  NotAnObject : Refusal
  UnexpectedMember : List ℕ → Refusal
  TwoVerbs : Refusal
  NoVerb : Refusal
  VerbNoString : List ℕ → Refusal
  ArgumentsNoObject : Refusal
  NegotiationExpected : Refusal
  NegotiationComplete : Refusal
  UnknownCommand : List ℕ → Refusal
  NotOutOfBand : List ℕ → Refusal
  Misfit : Fault → List PathStep → Refusal

-- what is made of a request before it takes effect: it is refused, or the command of the number
-- takes effect
pub data Verdict : Type 0 where
  Refused : Refusal → Verdict
  Run : ℕ → Verdict

-- the refusal, where the test holds
abbrev pub where_holds : Bool → Refusal → Option Refusal
where_holds test refusal = if test then Some refusal else None

-- the first refusal of several
abbrev pub first_of : List (Option Refusal) → Option Refusal
first_of [] = None
first_of (None ∷ others) = first_of others
first_of (Some refusal ∷ others) = Some refusal

-- a refusal, or else another verdict
abbrev pub refused_or : Option Refusal → Verdict → Verdict
refused_or (Some refusal) other = Refused refusal
refused_or None other = other

-- a member that a request may have
abbrev pub is_expected : Mode → Member → Bool
is_expected mode m =
    bytes_eq m.name (codes "execute") || bytes_eq m.name (codes "arguments") || bytes_eq m.name (codes "id")
    || (may_be_out_of_band mode && bytes_eq m.name (codes "exec-oob"))

abbrev pub unexpected_member : Mode → List Member → Option Refusal
unexpected_member mode members = option_map (λ m. UnexpectedMember m.name) (find (λ m. not (is_expected mode m)) members)

-- the checks of the message before its verb
abbrev pub malformed : Mode → Json → Option Refusal
malformed mode value = first_of
    (where_holds (not (is_object value)) NotAnObject
    ∷ unexpected_member mode (members_of value)
    ∷ where_holds (has_name (members_of value) (codes "execute") && has_name (members_of value) (codes "exec-oob")) TwoVerbs ∷ [])

-- the arguments, where there are any, are no object
abbrev pub bad_arguments : Json → Option Refusal
bad_arguments value = option_and_then (λ a. where_holds (not (is_object a)) ArgumentsNoObject) (arguments_of value)

-- the checks of a command's place, before or after negotiation
abbrev pub misplaced : Mode → List ℕ → Option Refusal
misplaced mode name = first_of
    (where_holds (is_negotiating mode && not (bytes_eq name (codes "qmp_capabilities"))) NegotiationExpected
    ∷ where_holds (not (is_negotiating mode) && bytes_eq name (codes "qmp_capabilities")) NegotiationComplete ∷ [])

-- the command takes effect where the arguments fit
abbrev pub admitted_run : ℕ → Admission → Verdict
admitted_run command Yes = Run command
admitted_run command (No fault path) = Refused (Misfit fault path)

-- the command is marked as one that may be run out of band
abbrev pub allows_out_of_band : World → ℕ → Bool
allows_out_of_band world command = option_map_or (λ (c : CommandDef). c.allow_oob) (slice_get world.schema.commands command) false

-- it is asked for out of band, and is not so marked
abbrev pub unsupported : World → Lane → List ℕ → ℕ → Option Refusal
unsupported world lane name command = where_holds (not (is_in_band lane) && not (allows_out_of_band world command)) (NotOutOfBand name)

-- the checks of the command that has the name, if one has
abbrev pub run_of : World → Lane → List ℕ → Option Json → Option ℕ → Verdict
run_of world lane name arguments None = Refused (UnknownCommand name)
run_of world lane name arguments (Some command) =
    refused_or (unsupported world lane name command) (admitted_run command (admission_of (command_misfit world.schema command arguments)))

-- a command that takes effect is one of the world's
abbrev pub IsKnown : World → Verdict → Type 0
IsKnown world (Refused refusal) = Unit {0}
IsKnown world (Run command) = command < length world.schema.commands

-- the verdict on a command of this name
abbrev pub command_verdict_of : World → Mode → Json → List ℕ → Verdict
command_verdict_of world mode value name =
    refused_or (first_of (bad_arguments value ∷ misplaced mode name ∷ []))
    (run_of world (lane_of mode value) name (arguments_of value) (place_of (command_names world.schema) name))

-- the verdict by the member that names the command
abbrev pub verb_verdict_of : World → Mode → Json → Option Member → Verdict
verb_verdict_of world mode value None = Refused NoVerb
verb_verdict_of world mode value (Some m) = option_map_or (command_verdict_of world mode value) (string_of m.value) (Refused (VerbNoString m.name))

-- the verdict on a value
abbrev pub request_verdict_of : World → Mode → Json → Verdict
request_verdict_of world mode value = refused_or (malformed mode value) (verb_verdict_of world mode value (find is_verb (members_of value)))

-- the verdict on an input that was admitted in a mode
abbrev pub verdict_of : World → Mode → Input → Verdict
verdict_of world mode (Doc value) = request_verdict_of world mode value
verdict_of world mode (Bad bad) = Refused (Malformed bad)
