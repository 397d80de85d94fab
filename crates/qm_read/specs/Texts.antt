-- Which texts spell a value, and which fault any other text has first (RFC 8259, section 2; the
-- limit on nesting and the places of faults are this project's own rule).
use Rattle.std.specs.Prelude.{ℕ, ◌<◌, ◌≤◌, List, length}
use Rattle.qm_frame.specs.declared.step.TheConstants.{MAX_DEPTH}
use Rattle.qm_json.specs.declared.value.Json.{Json}
use Rattle.qm_read.specs.declared.fault.JsonFault.{JsonFault, TheVariants.Expected, TheVariants.Duplicate, TheVariants.BadEscape, TheVariants.BadUtf8, TheVariants.Memory}
use Rattle.qm_read.specs.{Spelling.SpellsValue, Tokens.tokens_of, Viable.FirstFault}

-- the tokens of the text spell the value, nested at most so deep
abbrev pub SpellsWithin : ℕ → List ℕ → Json → Type 0
SpellsWithin limit text value = SpellsValue limit (tokens_of text) value

-- the same of a value that is nested as deep as a message may be
abbrev pub Spells : List ℕ → Json → Type 0
Spells text value = SpellsWithin MAX_DEPTH text value

-- the tokens of the text have this fault first, where values are nested at most so deep
abbrev pub HasFaultWithin : ℕ → List ℕ → JsonFault → Type 0
HasFaultWithin limit text fault = FirstFault limit (tokens_of text) (length text) fault

-- the same where values are nested as deep as a message may be
abbrev pub HasFault : List ℕ → JsonFault → Type 0
HasFault text fault = HasFaultWithin MAX_DEPTH text fault

-- a fault of a text of this length: it stands at a byte of the text, or at its end
abbrev pub IsWithin : ℕ → JsonFault → Type 0
IsWithin length (Expected place) = place ≤ length
IsWithin length (Duplicate place) = place < length
IsWithin length (BadEscape place) = place < length
IsWithin length (BadUtf8 place) = place < length
IsWithin length Memory = ⊥
