-- The inputs of the bytes that were fed to a session (this project's own rule).
use Rattle.std.specs.Prelude.{ℕ, List, map}
use Rattle.qm_core.specs.declared.inputs.{FrameWord.FrameWord, Input.Input, Input.TheVariants.Doc, Input.TheVariants.Bad}
use Rattle.qm_core.specs.declared.inputs.FrameWord.TheVariants as word
use Rattle.qm_core.specs.declared.inputs.BadInput.TheVariants as bad
use Rattle.qm_core.specs.declared.inputs.JsonWord.TheVariants as place
use Rattle.qm_frame.specs.declared.step.FrameFault.{FrameFault, TheVariants.LexError, TheVariants.Unbalanced, TheVariants.TooDeep, TheVariants.TooLong}
use Rattle.qm_read.specs.{Inputs.inputs_of, declared.fault.JsonFault.JsonFault}
use Rattle.qm_read.specs.declared.fault.JsonFault.TheVariants.{Expected, Duplicate, BadEscape, BadUtf8, Memory}
use Rattle.qm_read.specs.declared.taken.Taken.{Taken, TheVariants.Value, TheVariants.BadFrame, TheVariants.BadText}

abbrev pub frame_word_of : FrameFault → FrameWord
frame_word_of LexError = word.LexError
frame_word_of Unbalanced = word.Unbalanced
frame_word_of TooDeep = word.TooDeep
frame_word_of TooLong = word.TooLong

-- a text is never refused for want of memory
abbrev pub text_input_of : JsonFault → Input
text_input_of (Expected at) = Bad (bad.Json (place.Expected at))
text_input_of (Duplicate at) = Bad (bad.Json (place.Duplicate at))
text_input_of (BadEscape at) = Bad (bad.Json (place.BadEscape at))
text_input_of (BadUtf8 at) = Bad (bad.Json (place.BadUtf8 at))
text_input_of Memory = Bad (bad.Frame word.LexError)

-- what was taken from the bytes, as an input of the monitor
abbrev pub input_of : Taken → Input
input_of (Value value) = Doc value
input_of (BadFrame fault) = Bad (bad.Frame (frame_word_of fault))
input_of (BadText fault) = text_input_of fault

-- the inputs of the bytes, in order
abbrev pub fed_inputs_of : List ℕ → List Input
fed_inputs_of bytes = map input_of (inputs_of bytes)
