-- Error replies: their classes (QMP specification, "Error") and descriptions (this project's own rule).
use Rattle.std.specs.Prelude.{ℕ, List, ◌++◌, codes}
use Rattle.std.specs.Fmt.{decimal}
use Rattle.qm_admit.specs.Paths.{printed_path}
use Rattle.qm_admit.specs.declared.verdict.Fault.{Fault, TheVariants.Missing, TheVariants.Unexpected, TheVariants.WrongKind, TheVariants.OutOfRange, TheVariants.BadEnum, TheVariants.NoAlternative}
use Rattle.qm_core.specs.declared.inputs.{BadInput.BadInput, FrameWord.FrameWord, FrameWord.TheVariants.LexError, FrameWord.TheVariants.Unbalanced, FrameWord.TheVariants.TooDeep, FrameWord.TheVariants.TooLong, JsonWord.JsonWord}
use Rattle.qm_core.specs.declared.inputs.BadInput.TheVariants as bad
use Rattle.qm_core.specs.declared.inputs.JsonWord.TheVariants.{Expected, Duplicate, BadEscape, BadUtf8}
use Rattle.qm_core.specs.{Inputs.arguments_in, declared.inputs.Input.Input, declared.world.World.World}
use Rattle.qm_core.specs.declared.verdicts.{Class.Class, Class.TheVariants.GenericError, Class.TheVariants.CommandNotFound}
use Rattle.qm_core.specs.Verdicts.{Refusal, Malformed, NotAnObject, UnexpectedMember, TwoVerbs, NoVerb, VerbNoString, ArgumentsNoObject, NegotiationExpected, NegotiationComplete, UnknownCommand, NotOutOfBand, Misfit}

-- what a message is called that is no message or no value
abbrev pub frame_desc_of : FrameWord → List ℕ
frame_desc_of LexError = codes "Invalid JSON: lexical error"
frame_desc_of Unbalanced = codes "Invalid JSON: unbalanced bracket"
frame_desc_of TooDeep = codes "Invalid JSON: nesting is deeper than 128"
frame_desc_of TooLong = codes "Invalid JSON: message is longer than 1048576 bytes"

abbrev pub json_desc_of : JsonWord → List ℕ
json_desc_of (Expected place) = codes "Invalid JSON: syntax error at byte " ++ decimal place
json_desc_of (Duplicate place) = codes "Invalid JSON: duplicate member at byte " ++ decimal place
json_desc_of (BadEscape place) = codes "Invalid JSON: bad escape at byte " ++ decimal place
json_desc_of (BadUtf8 place) = codes "Invalid JSON: bad UTF-8 at byte " ++ decimal place

abbrev pub bad_desc_of : BadInput → List ℕ
bad_desc_of (bad.Frame word) = frame_desc_of word
bad_desc_of (bad.Json word) = json_desc_of word

-- what is wrong with the arguments at the end of the way
abbrev pub misfit_desc_of : Fault → List ℕ → List ℕ
misfit_desc_of Missing path = codes "Parameter '" ++ path ++ codes "' is missing"
misfit_desc_of Unexpected path = codes "Parameter '" ++ path ++ codes "' is unexpected"
misfit_desc_of WrongKind path = codes "Invalid parameter type for '" ++ path ++ codes "'"
misfit_desc_of OutOfRange path = codes "Parameter '" ++ path ++ codes "' is out of range"
misfit_desc_of BadEnum path = codes "Parameter '" ++ path ++ codes "' does not accept this value"
misfit_desc_of NoAlternative path = codes "Parameter '" ++ path ++ codes "' matches no alternative"

-- the description of a refusal of an input
abbrev pub desc_of : World → Input → Refusal → List ℕ
desc_of world input (Malformed what) = bad_desc_of what
desc_of world input NotAnObject = codes "QMP input must be a JSON object"
desc_of world input (UnexpectedMember name) = codes "QMP input member '" ++ name ++ codes "' is unexpected"
desc_of world input TwoVerbs = codes "QMP input has both 'execute' and 'exec-oob'"
desc_of world input NoVerb = codes "QMP input lacks member 'execute'"
desc_of world input (VerbNoString name) = codes "QMP input member '" ++ name ++ codes "' must be a string"
desc_of world input ArgumentsNoObject = codes "QMP input member 'arguments' must be an object"
desc_of world input NegotiationExpected = codes "Expecting capabilities negotiation with 'qmp_capabilities'"
desc_of world input NegotiationComplete = codes "Capabilities negotiation is already complete, command ignored"
desc_of world input (UnknownCommand name) = codes "The command " ++ name ++ codes " has not been found"
desc_of world input (NotOutOfBand name) = codes "The command " ++ name ++ codes " does not support OOB"
desc_of world input (Misfit fault path) = misfit_desc_of fault (printed_path world.schema.kinds (arguments_in input) path)

-- the class of a refusal
abbrev pub class_of : Refusal → Class
class_of NegotiationExpected = CommandNotFound
class_of NegotiationComplete = CommandNotFound
class_of (UnknownCommand name) = CommandNotFound
class_of _ = GenericError

abbrev pub class_name_of : Class → List ℕ
class_name_of GenericError = codes "GenericError"
class_name_of CommandNotFound = codes "CommandNotFound"
