-- What a text is read as, by what it spells and by its first fault.
use Rattle.std.proofs.Common.{◌≡◌, ◌≢◌, ℕ, ◌≤◌, List, length, Result, Ok, Err, IfOk, IfErr, sym}
use Rattle.qm_json.specs.{Cleanness.IsClean, declared.value.Json.Json, Nesting.depth}
use Rattle.qm_frame.specs.declared.step.TheConstants.{MAX_DEPTH}
use Rattle.qm_read.specs.{declared.fault.JsonFault.JsonFault, declared.fault.JsonFault.TheVariants.Memory, Faults.reading_within, Faults.reading_of}
use Rattle.qm_read.specs.{Texts.SpellsWithin, Texts.HasFaultWithin, Texts.IsWithin, Tokens.tokens_of}
use Rattle.qm_read.proofs.{Accepts.reading-spelled, CleanValues.nested, CleanValues.spelled-clean, CleanValues.fault-within}
use Rattle.qm_read.proofs.{FaultLaws.reading-faulty, FaultLaws.first_fault, Holds.spelled}

-- at most so many brackets are open at a time
module _ (limit : ℕ) (text : List ℕ) where
  pub value_spelled : (v : Json) → reading_within limit text ≡ Ok v → SpellsWithin limit text v
  unfolding reading_within
  value_spelled v e = spelled limit (tokens_of text) v (length text) e

  pub spelled_value : (v : Json) → SpellsWithin limit text v → reading_within limit text ≡ Ok v
  unfolding reading_within
  spelled_value v s = reading-spelled limit (tokens_of text) v (length text) s

  pub fault_first : (f : JsonFault) → reading_within limit text ≡ Err f → HasFaultWithin limit text f
  unfolding reading_within
  fault_first f e = first_fault limit (tokens_of text) (length text) f e

  pub first_fault_of : (f : JsonFault) → HasFaultWithin limit text f → reading_within limit text ≡ Err f
  unfolding reading_within
  first_fault_of f h = reading-faulty limit (tokens_of text) (length text) f h

  -- what is read is clean
  pub value_clean : (v : Json) → reading_within limit text ≡ Ok v → IsClean v
  value_clean v e = spelled-clean limit text v (value_spelled v e)

  -- what is read is nested no deeper than the limit
  pub nested_within : (v : Json) → reading_within limit text ≡ Ok v → depth v ≤ limit
  nested_within v e = nested (value_spelled v e)

  -- a fault lies in its text, and want of memory is none
  pub fault_within : (f : JsonFault) → reading_within limit text ≡ Err f → IsWithin (length text) f
  fault_within f e = fault-within limit text f (fault_first f e)

  pub fault_told : reading_within limit text ≢ Err Memory
  fault_told e = fault_within Memory e

  -- the same of an answer that is what the text is read as, unless memory was wanting
  abbrev Reads : Result Json JsonFault → Type 0
  Reads r = r ≢ Err Memory → r ≡ reading_within limit text

  pub result_spelled : (r : Result Json JsonFault) → Reads r → IfOk r (SpellsWithin limit text)
  result_spelled (Ok v) h = value_spelled v (sym (h (λ e. cc)))
  result_spelled (Err f) h = tt

  pub result_clean : (r : Result Json JsonFault) → Reads r → IfOk r IsClean
  result_clean (Ok v) h = value_clean v (sym (h (λ e. cc)))
  result_clean (Err f) h = tt

  pub result_fault : (r : Result Json JsonFault) → Reads r → IfErr r (λ f. f ≢ Memory → HasFaultWithin limit text f)
  result_fault (Ok v) h = tt
  result_fault (Err f) h = λ known. fault_first f (sym (h (λ e. known cc)))

-- the same of values that are nested as deep as a message may be

pub value-clean : (text : List ℕ) (v : Json) → reading_of text ≡ Ok v → IsClean v
value-clean text v e = value_clean MAX_DEPTH text v e

pub value_nested : (text : List ℕ) (v : Json) → reading_of text ≡ Ok v → depth v ≤ MAX_DEPTH
value_nested text v e = nested_within MAX_DEPTH text v e

pub read_within : (text : List ℕ) (f : JsonFault) → reading_of text ≡ Err f → IsWithin (length text) f
read_within text f e = fault_within MAX_DEPTH text f e

pub read_told : (text : List ℕ) → reading_of text ≢ Err Memory
read_told text e = fault_told MAX_DEPTH text e
