-- The inputs of a stream of bytes: each of its messages read, and each of its faults (this
-- project's own rule).
use Rattle.std.specs.Prelude.{ℕ, List, map, Result, Ok, Err}
use Rattle.qm_frame.specs.{Framing.frames_of, declared.step.FrameFault.FrameFault}
use Rattle.qm_json.specs.{Cleanness.IsClean, declared.value.Json.Json}
use Rattle.qm_read.specs.{Faults.reading_of, declared.fault.JsonFault.JsonFault, declared.taken.Taken.Taken}
use Rattle.qm_read.specs.declared.taken.Taken.TheVariants.{Value, BadFrame, BadText}

abbrev pub read_as : Result Json JsonFault → Taken
read_as (Ok value) = Value value
read_as (Err fault) = BadText fault

-- a message is the value that it spells or its first fault; a bad frame stays
abbrev pub taken_of : Result (List ℕ) FrameFault → Taken
taken_of (Ok message) = read_as (reading_of message)
taken_of (Err fault) = BadFrame fault

-- what the frames of the bytes are read as
abbrev pub inputs_of : List ℕ → List Taken
inputs_of bytes = map taken_of (frames_of bytes)

-- what was taken has no value that is not clean
abbrev pub IsCleanInput : Taken → Type 0
IsCleanInput (Value value) = IsClean value
IsCleanInput (BadFrame fault) = Unit {0}
IsCleanInput (BadText fault) = Unit {0}
