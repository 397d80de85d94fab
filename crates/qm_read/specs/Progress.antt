-- What a step of reading makes of what was read before it. This serves private functions.
use Rattle.std.specs.Prelude.{◌≡◌, ◌≢◌, ℕ, ◌+◌, ◌<◌, ◌≤◌, List, length, drop, Result, Ok, Err}
use Rattle.qm_json.specs.declared.value.Json.{Json}
use Rattle.qm_read.specs.{declared.fault.JsonFault.JsonFault, declared.fault.JsonFault.TheVariants.Memory, Faults.run, Faults.ended}
use Rattle.qm_read.specs.{Stacks.State, Strings.followed_by, Strings.text_after, Tokens.tokens_from}

-- a token was taken, or refused, or memory was wanting
abbrev pub Steps : Result State JsonFault → Result (Unit {0}) JsonFault → State → Type 0
Steps right (Ok u) new = right ≡ Ok new
Steps right (Err fault) new = fault ≢ Memory → right ≡ Err fault

-- some bytes at the front were taken, and what all comes to stays what it was; or it is this fault, or memory was wanting
abbrev pub Advances : {S R : Type 0} → (S → ℕ → List ℕ → Result R JsonFault) → S → ℕ → List ℕ → Result ℕ JsonFault → S → Type 0
Advances whole old place bytes (Ok n) new =
    (0 < n) × (n ≤ length bytes) × (whole old place bytes ≡ whole new (place + n) (drop n bytes))
Advances whole old place bytes (Err fault) new = fault ≢ Memory → whole old place bytes ≡ Err fault

-- what a string stands for, after the part that stands for a text
abbrev pub decoded_from : List ℕ → ℕ → List ℕ → Result (List ℕ) JsonFault
decoded_from text place bytes = followed_by text (text_after 0 place bytes)

-- what a text is read as, after what led to a state
abbrev pub reading_from : ℕ → State → ℕ → List ℕ → Result Json JsonFault
reading_from limit s place bytes = ended (run limit s (tokens_from place bytes)) (place + length bytes)
