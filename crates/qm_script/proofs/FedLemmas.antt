-- The inputs of bytes: there are none of no bytes, and all are clean.
use Rattle.std.proofs.Common.{◌≡◌, ◌<◌, ◌^◌, ℕ, true, zero, suc, arith, List, [], ◌∷◌, map, length, get_or, Option, Some, None, Result, Ok, Err, refl, ap, sym, ◌∙◌, subst, inl, inr}
use Rattle.std.specs.List.{list_all, slice_get}
use Rattle.std.proofs.lemmas.Bool.Decides.{nat_tests}
use Rattle.std.proofs.lemmas.{List.length-map, Option.slice_get_cases, Option.slice_get_past}
use Rattle.qm_json.specs.{Cleanness.IsClean, declared.value.Json.Json}
use Rattle.qm_core.specs.{Inputs.IsCleanInput, declared.inputs.Input.Input}
use Rattle.qm_frame.specs.{Framing.frames_of, declared.step.FrameFault.FrameFault}
use Rattle.qm_read.specs.{Faults.reading_of, Inputs.taken_of, Inputs.read_as, declared.fault.JsonFault.JsonFault}
use Rattle.qm_read.specs.declared.fault.JsonFault.TheVariants.{Expected, Duplicate, BadEscape, BadUtf8, Memory}
use Rattle.qm_read.specs.Texts.{IsWithin}
use Rattle.qm_read.proofs.Results.{read_within, value-clean}
use Rattle.qm_core.proofs.Pasts.{both}
use Rattle.qm_script.proofs.FrameLemmas.{frames-short, is_short}
use Rattle.qm_script.specs.{Fed.fed_inputs_of, Fed.input_of, Fed.text_input_of, Kept.fed_of}

pub fed_inputs_of_nothing : (bytes : List ℕ) → bytes ≡ [] → [] ≡ fed_inputs_of bytes
unfolding frames_of
fed_inputs_of_nothing bytes none = rw none refl

clean_text : (size : ℕ) (fault : JsonFault) → size < 2 ^ 64 → IsWithin size fault → IsCleanInput (text_input_of fault)
clean_text size (Expected at) small within = omega (arith, small, within)
clean_text size (Duplicate at) small within = omega (arith, small, within)
clean_text size (BadEscape at) small within = omega (arith, small, within)
clean_text size (BadUtf8 at) small within = omega (arith, small, within)
clean_text size Memory small within = tt

clean_read : (size : ℕ) (read : Result Json JsonFault) → size < 2 ^ 64 → ((value : Json) → read ≡ Ok value → IsClean value) → ((fault : JsonFault) → read ≡ Err fault → IsWithin size fault) → IsCleanInput (input_of (read_as read))
clean_read size (Ok value) small clean within = clean value refl
clean_read size (Err fault) small clean within = clean_text size fault small (within fault refl)

clean_frame : (frame : Result (List ℕ) FrameFault) → is_short frame ≡ true → IsCleanInput (input_of (taken_of frame))
clean_frame (Ok message) short = clean_read (length message) (reading_of message) (grind (arith, nat_tests, short)) (λ value e. value-clean message value e) (λ fault e. read_within message fault e)
clean_frame (Err fault) short = tt

clean_frames : (frames : List (Result (List ℕ) FrameFault)) (place : ℕ) (other : Input) → list_all is_short frames ≡ true → place < length frames →
    IsCleanInput (get_or (map input_of (map taken_of frames)) place other)
clean_frames [] place other short within = absurd (omega arith)
clean_frames (frame ∷ frames) zero other short within = clean_frame frame (both (is_short frame) (list_all is_short frames) short).0
clean_frames (frame ∷ frames) (suc place) other short within = clean_frames frames place other (both (is_short frame) (list_all is_short frames) short).1 (omega arith)

clean_at : (bytes : List ℕ) (place : ℕ) (input : Input) →
    ((other : Input) × (place < length (fed_inputs_of bytes)) × (slice_get (fed_inputs_of bytes) place ≡ Some other) × (get_or (fed_inputs_of bytes) place other ≡ other)) →
    slice_get (fed_inputs_of bytes) place ≡ Some input → IsCleanInput input
clean_at bytes place input found there =
    let within : place < length (frames_of bytes) = rw (length-map, length-map) at found.1 in
    let same : found.0 ≡ input = (let e : Some found.0 ≡ Some input = sym found.2 ∙ there in cc) in
    subst IsCleanInput (found.3 ∙ same) (clean_frames (frames_of bytes) place found.0 (frames-short bytes) within)

-- an input of bytes is clean
pub fed_clean : (bytes : List ℕ) (place : ℕ) (input : Input) → slice_get (fed_inputs_of bytes) place ≡ Some input → IsCleanInput input
fed_clean bytes place input there = elim (slice_get_cases (fed_inputs_of bytes) place).1 [
  | inl found ↦ clean_at bytes place input found there
  | inr past ↦ absurd (let e : None ≡ Some input = sym past.1 ∙ there in cc)
]

-- there is none where nothing was fed
pub nothing_fed : (feeder : Option (List ℕ)) (place : ℕ) → feeder ≡ None → None ≡ slice_get (fed_inputs_of (fed_of feeder)) place
nothing_fed feeder place none =
    sym (ap (λ (f : Option (List ℕ)). slice_get (fed_inputs_of (fed_of f)) place) none ∙ sym (ap (λ (l : List Input). slice_get l place) (fed_inputs_of_nothing [] refl)) ∙ slice_get_past [] place (omega arith))
