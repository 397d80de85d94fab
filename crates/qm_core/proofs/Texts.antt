-- The text of a journal and one more entry, and the lengths of lines.
use Rattle.std.proofs.Common.{◌≡◌, ℕ, ◌+◌, List, [], ◌∷◌, ◌++◌, length, refl, ap, ◌∙◌, append-nil, append_assoc, arith}
use Rattle.std.specs.{Fmt.decimal, List.flat_map}
use Rattle.std.proofs.lemmas.{List.length-append, Grind.flat_map-append}
use Rattle.qm_core.specs.{Texts.text_from, Texts.text_of, Texts.entry_text_of, Texts.taken_text_of, Transcript.wire_of}
use Rattle.qm_core.specs.declared.entries.Entry.{Entry, TheVariants.Take}

-- the entries after others are numbered on
pub text_from-append : (n : ℕ) (front back : List Entry) → text_from n (front ++ back) ≡ text_from n front ++ text_from (n + length front) back
text_from-append n [] back = grind arith
text_from-append n (e ∷ front) back = grind (arith, text_from-append (n + 1) front back, append_assoc)

-- one entry more
pub text_of-more : (journal : List Entry) (e : Entry) → text_of (journal ++ e ∷ []) ≡ text_of journal ++ entry_text_of (length journal + 1) e
text_of-more journal e = grind (arith, text_from-append 1 journal (e ∷ []), append-nil)

pub text_more : (journal : List Entry) (e : Entry) → length (text_of (journal ++ e ∷ [])) ≡ length (text_of journal) + length (entry_text_of (length journal + 1) e)
text_more journal e = ap (λ (t : List ℕ). length t) (text_of-more journal e) ∙ length-append (text_of journal) (entry_text_of (length journal + 1) e)

pub wire-append : (lines others : List (List ℕ)) → length (wire_of (lines ++ others)) ≡ length (wire_of lines) + length (wire_of others)
wire-append lines others = ap (λ (t : List ℕ). length t) (flat_map-append (λ line. line ++ 13 ∷ 10 ∷ []) lines others) ∙ length-append (wire_of lines) (wire_of others)

-- one line more on the wire
pub wire_more : (lines : List (List ℕ)) (line : List ℕ) → length (wire_of (lines ++ line ∷ [])) ≡ length (wire_of lines) + length line + 2
wire_more lines line = grind (arith, wire-append lines (line ∷ []), length-append line (13 ∷ 10 ∷ []), append-nil)

-- lines that are handed out, in an entry and on the wire
taken_length : (lines : List (List ℕ)) → length (flat_map taken_text_of lines) ≡ length (wire_of lines) + length lines
taken_length [] = refl
taken_length (line ∷ lines) = grind (arith, taken_length lines, length-append)

pub take_length : (at s : ℕ) (lines : List (List ℕ)) →
    length (entry_text_of at (Take s lines)) ≡ length (decimal at) + 8 + length (decimal s) + length (decimal (length lines)) + length (wire_of lines) + length lines
take_length at s lines = grind (arith, taken_length lines, length-append)
