-- The value of a text or its first fault, as a function of the text: the one that Texts tells by
-- relations (this project's own rule).
use Rattle.std.specs.Prelude.{ℕ, List, [], ◌∷◌, length, Result, Ok, Err}
use Rattle.qm_frame.specs.declared.step.TheConstants.{MAX_DEPTH}
use Rattle.qm_json.specs.declared.value.Json.{Json}
use Rattle.qm_read.specs.declared.{fault.JsonFault.JsonFault, fault.JsonFault.TheVariants.Expected, stack.Open.Open}
use Rattle.qm_read.specs.{declared.stack.Open.TheVariants.Whole, Stacks.State, Stacks.begun, Steps.step, Tokens.Placed, Tokens.tokens_of}

abbrev pub on : Result State JsonFault → (State → Result State JsonFault) → Result State JsonFault
on (Ok s) next = next s
on (Err fault) next = Err fault

-- tokens from the left, up to the first fault, where so many brackets at most may be open at a time
abbrev pub run : ℕ → State → List Placed → Result State JsonFault
run limit s [] = Ok s
run limit s (t ∷ ts) = on (step limit s t.token t.place) (λ next. run limit next ts)

-- the value, if it is whole where a text of this length ends
abbrev pub whole : List Open → ℕ → Result Json JsonFault
whole (Whole v ∷ outer) length = Ok v
whole _ length = Err (Expected length)

abbrev pub ended : Result State JsonFault → ℕ → Result Json JsonFault
ended (Ok s) length = whole s.stack length
ended (Err fault) length = Err fault

-- the value of a text of these tokens and this length, or its first fault
abbrev pub reading : ℕ → List Placed → ℕ → Result Json JsonFault
reading limit ts length = ended (run limit begun ts) length

-- the value that a text spells, nested at most so deep, or its first fault
unfoldable pub reading_within : ℕ → List ℕ → Result Json JsonFault
reading_within limit text = reading limit (tokens_of text) (length text)

-- the same of a value that is nested as deep as a message may be
abbrev pub reading_of : List ℕ → Result Json JsonFault
reading_of text = reading_within MAX_DEPTH text
