-- The room of a journal for one more entry.
use Rattle.std.proofs.Common.{◌≡◌, ℕ, ◌+◌, ◌*◌, ◌≤◌, nat_le, Bool, ◌&&◌, ◌∷◌, length, Result, Ok, Err, IfOk, refl, ap, sym, subst, ◌∙◌, arith}
use Rattle.std.specs.Result.{result_err}
use Rattle.std.proofs.lemmas.{Bool.Decides.nat_tests, List.length-reverse, List.reverse-reverse}
use Rattle.qm_json.specs.Printing.{capped}
use Rattle.qm_core.specs.{Kept.HasPlace, Kept.Placed, Kept.has_place, Legal.past_of, Next.View, Next.full_refusal, Next.full_unless}
use Rattle.qm_core.specs.{Standing.open_count_of, Texts.entry_text_of, Texts.text_of}
use Rattle.qm_core.specs.declared.{TheConstants.DROP_BYTES, TheConstants.MOST_TEXT, entries.Entry.Entry, entries.StepFault.StepFault}

-- a length past 64 bits is past the limit
same_test : (before bytes kept most : ℕ) → most ≤ MOST_TEXT → nat_le (before + capped bytes + kept) most ≡ nat_le (before + bytes + kept) most
same_test before bytes kept most short = grind (arith, nat_tests)

full-is : (m : View) (e : Entry) →
    full_refusal m.limits (past_of m.journal) e ≡ full_unless (has_place m (length (entry_text_of (length m.journal + 1) e)) (open_count_of (e ∷ past_of m.journal)))
full-is m e = rw (reverse-reverse m.journal, length-reverse m.journal) refl

room-full : (m : View) (e : Entry) (bytes opened : ℕ) → m.limits.text ≤ MOST_TEXT → bytes ≡ capped (length (entry_text_of (length m.journal + 1) e)) →
    opened ≡ open_count_of (e ∷ past_of m.journal) → full_unless (has_place m bytes opened) ≡ full_refusal m.limits (past_of m.journal) e
room-full m e bytes opened short size count =
    let exact = length (entry_text_of (length m.journal + 1) e) in
    let before = length (text_of m.journal) in
    rw (size, count) (ap (λ (t : Bool). full_unless (nat_le (length m.journal + 1 + open_count_of (e ∷ past_of m.journal)) m.limits.entries && t))
    (same_test before exact (DROP_BYTES * open_count_of (e ∷ past_of m.journal)) m.limits.text short) ∙ sym (full-is m e))

uncapped : (bytes before kept most : ℕ) → before + capped bytes + kept ≤ most → most ≤ MOST_TEXT → capped bytes ≡ bytes
uncapped bytes before kept most within short = omega (arith, within, short)

-- the room that was found is that of the entry
pub placed : (m : View) (e : Entry) (at bytes opened : ℕ) (result : Result ℕ StepFault) → m.limits.text ≤ MOST_TEXT →
    at ≡ length m.journal + 1 → bytes ≡ capped (length (entry_text_of at e)) → opened ≡ open_count_of (e ∷ past_of m.journal) →
    result_err result ≡ full_unless (has_place m bytes opened) → IfOk result (λ n. n ≡ bytes) → IfOk result (λ n. HasPlace m n opened) → Placed m e result
placed m e at bytes opened (Ok n) short number said count fault value room =
    let size = subst (λ (n : ℕ). bytes ≡ capped (length (entry_text_of n e))) number said in
    let exact = length (entry_text_of (length m.journal + 1) e) in
    let is : n ≡ capped exact = value ∙ size in
    let within : length (text_of m.journal) + capped exact + DROP_BYTES * opened ≤ m.limits.text = rw is at room.text in
    record {
      fault = fault ∙ room-full m e bytes opened short size count;
      placed = record { bytes = is ∙ uncapped exact (length (text_of m.journal)) (DROP_BYTES * opened) m.limits.text within short; room = rw (← count) room };
    }
placed m e at bytes opened (Err f) short number said count fault value room =
    let size = subst (λ (n : ℕ). bytes ≡ capped (length (entry_text_of n e))) number said in
    record { fault = fault ∙ room-full m e bytes opened short size count; placed = tt }
