-- The lines of a text, and the text of lines.
use Rattle.std.proofs.Common.{◌≡◌, ℕ, ◌+◌, ◌<◌, ◌≤◌, zero, suc, Bool, true, false, cond, List, [], ◌∷◌, ◌++◌, length, map, take, drop, get_or, codes, Option, Some, None, position, refl, ap, sym, ◌∙◌, arith, append_assoc, append-nil}
use Rattle.std.specs.Prelude.{nat_lt}
use Rattle.std.specs.Fmt.{decimal}
use Rattle.std.specs.List.{flat_map, list_all, position_or_len}
use Rattle.std.proofs.lemmas.Bool.{and_parts, cond-true, cond-false, not-true}
use Rattle.std.proofs.lemmas.Bool.Decides.{nat_tests}
use Rattle.std.proofs.lemmas.Grind.{flat_map-append}
use Rattle.std.proofs.lemmas.List.Sums.{fails_before_first}
use Rattle.std.proofs.lemmas.List.Quantifiers.{position-Some}
use Rattle.qm_core.specs.Texts.{entry_text_of, text_from, taken_text_of}
use Rattle.qm_core.specs.declared.entries.Entry.{Entry}
use Rattle.qm_history.specs.Lines.{is_line_feed, stays_in_line, IsLine, AllLines, lines_in, left_in, lines_of, left_of}
use Rattle.qm_history.specs.Forms.{said_of, first_line_of, taken_by, taken_line, lines_from, history_lines}
use Rattle.qm_history.specs.Histories.{AllHaveText, end_line, whole_text_of}
use Rattle.qm_history.proofs.FormLaws.{history-each}
use Rattle.qm_history.proofs.EntryLines.{entry_parts}
use Rattle.qm_history.proofs.PrintedLines.{line-append}

pub record Cut (front text : List ℕ) (at : ℕ) : Type 0 where
  pub lines : lines_in front text ≡ (front ++ take at text) ∷ lines_in [] (drop (at + 1) text)
  pub left : left_in front text ≡ left_in [] (drop (at + 1) text)

cut-at : (front text : List ℕ) (at : ℕ) → at < length text → is_line_feed (get_or text at 0) ≡ true → ((k : ℕ) → k < at → is_line_feed (get_or text k 0) ≡ false) → Cut front text at
cut-at front [] at h e p = absurd (omega (arith, h))
cut-at front (x ∷ text) zero h e p = record {
  lines = cond-true (is_line_feed x) _ _ e ∙ ap (λ (l : List ℕ). l ∷ lines_in [] text) (sym (append-nil front));
  left = cond-true (is_line_feed x) _ _ e;
}
cut-at front (x ∷ text) (suc at) h e p =
    let inner = cut-at (front ++ x ∷ []) text at (omega (arith, h)) e (λ k j. p (suc k) (omega (arith, j))) in
    let first : (is_line_feed x) ≡ false = p 0 (omega arith) in
    let later : at + 1 ≡ suc at = omega arith in
    let more : suc at + 1 ≡ suc (suc at) = omega arith in
    record {
      lines = cond-false (is_line_feed x) _ _ first ∙ inner.lines ∙ rw (more, later) (ap (λ (l : List ℕ). l ∷ lines_in [] (drop (suc at) text)) (append_assoc front (x ∷ []) (take at text)));
      left = cond-false (is_line_feed x) _ _ first ∙ inner.left ∙ rw (more, later) refl;
    }

pub cut : (text : List ℕ) (at : ℕ) → position is_line_feed text ≡ Some at → Cut [] text at
cut text at e = let h = position-Some is_line_feed text at 0 e in cut-at [] text at h.0 h.1 h.2

pub wont-feed : (front text : List ℕ) → ((k : ℕ) → k < length text → is_line_feed (get_or text k 0) ≡ false) → (lines_in front text ≡ []) × (left_in front text ≡ front ++ text)
wont-feed front [] p = (refl, sym (append-nil front))
wont-feed front (x ∷ text) p =
    let first : (is_line_feed x) ≡ false = p 0 (omega arith) in
    let inner = wont-feed (front ++ x ∷ []) text (λ k j. p (suc k) (omega (arith, j))) in
    (cond-false (is_line_feed x) _ _ first ∙ inner.0, cond-false (is_line_feed x) _ _ first ∙ inner.1 ∙ append_assoc front (x ∷ []) text)

none_from : (b : Bool) (n : ℕ) → cond {A = Option ℕ} b (Some n) None ≡ None → b ≡ false
none_from true n e = cc
none_from false n e = refl

pub wont-position : (text : List ℕ) → position is_line_feed text ≡ None → (k : ℕ) → k < length text → is_line_feed (get_or text k 0) ≡ false
wont-position text e k h =
    let place = position_or_len is_line_feed text in
    let test : nat_lt place (length text) ≡ false = none_from (nat_lt place (length text)) place e in
    let past : length text ≤ place = grind (arith, nat_tests) in
    fails_before_first is_line_feed text k 0 (omega (arith, past, h))

-- lines, each with its LF

abbrev pub ended : List ℕ → List ℕ
ended line = line ++ 10 ∷ []

one-cut : (front line text : List ℕ) → IsLine line → (lines_in front (line ++ 10 ∷ text) ≡ (front ++ line) ∷ lines_in [] text) × (left_in front (line ++ 10 ∷ text) ≡ left_in [] text)
one-cut front [] text h = (ap (λ (l : List ℕ). l ∷ lines_in [] text) (sym (append-nil front)), refl)
one-cut front (x ∷ line) text h =
    let p = and_parts (stays_in_line x) (list_all stays_in_line line) h in
    let inner = one-cut (front ++ x ∷ []) line text p.1 in
    (cond-false (is_line_feed x) _ _ (not-true (is_line_feed x) p.0) ∙ inner.0 ∙ ap (λ (l : List ℕ). l ∷ lines_in [] text) (append_assoc front (x ∷ []) line), cond-false (is_line_feed x) _ _ (not-true (is_line_feed x) p.0) ∙ inner.1)

pub lines-cut : (lines : List (List ℕ)) → AllLines lines → (lines_of (flat_map ended lines) ≡ lines) × (left_in [] (flat_map ended lines) ≡ [])
lines-cut [] h = (refl, refl)
lines-cut (line ∷ lines) h =
    let rest = lines-cut lines h.1 in
    let all : flat_map ended (line ∷ lines) ≡ line ++ 10 ∷ flat_map ended lines = append_assoc line (10 ∷ []) (flat_map ended lines) in
    let here = one-cut [] line (flat_map ended lines) h.0 in
    (ap lines_of all ∙ here.0 ∙ ap (λ (l : List (List ℕ)). line ∷ l) rest.0, ap (left_in []) all ∙ here.1 ∙ rest.1)

-- an entry's text is its lines
taken-lines : (lines : List (List ℕ)) → flat_map taken_text_of lines ≡ flat_map ended (map taken_line lines)
taken-lines [] = refl
taken-lines (line ∷ lines) = ap (λ (l : List ℕ). taken_text_of line ++ l) (taken-lines lines)

entry-lines : (n : ℕ) (e : Entry) → entry_text_of n e ≡ flat_map ended (first_line_of n e ∷ map taken_line (taken_by e))
entry-lines n e =
    entry_parts n e
    ∙ ap (λ (l : List ℕ). decimal n ++ codes " " ++ said_of e ++ codes "\n" ++ l) (taken-lines (taken_by e))
    ∙ simp append_assoc

entries-lines : (n : ℕ) (entries : List Entry) → text_from n entries ≡ flat_map ended (lines_from n entries)
entries-lines n [] = refl
entries-lines n (e ∷ entries) =
    ap (λ (l : List ℕ). l ++ text_from (n + 1) entries) (entry-lines n e)
    ∙ ap (λ (l : List ℕ). flat_map ended (first_line_of n e ∷ map taken_line (taken_by e)) ++ l) (entries-lines (n + 1) entries)
    ∙ sym (flat_map-append ended (first_line_of n e ∷ map taken_line (taken_by e)) (lines_from (n + 1) entries))

-- the text of a history is its lines
whole-lines : (entries : List Entry) → whole_text_of entries ≡ flat_map ended (history_lines entries)
whole-lines entries =
    ap (λ (l : List ℕ). l ++ (end_line (length entries) ++ 10 ∷ [])) (entries-lines 1 entries)
    ∙ ap (λ (l : List ℕ). flat_map ended (lines_from 1 entries) ++ l) (sym (append-nil (end_line (length entries) ++ 10 ∷ [])))
    ∙ sym (flat_map-append ended (lines_from 1 entries) (end_line (length entries) ∷ []))

-- the lines of a history, and that nothing is left
pub whole-cut : (entries : List Entry) → AllHaveText entries → (lines_of (whole_text_of entries) ≡ history_lines entries) × (left_of (whole_text_of entries) ≡ [])
whole-cut entries h =
    let cut = lines-cut (history_lines entries) (history-each entries h) in
    (ap lines_of (whole-lines entries) ∙ cut.0, ap left_of (whole-lines entries) ∙ cut.1)

-- a text is its lines, and what is left
back : (before text : List ℕ) → before ++ text ≡ flat_map ended (lines_in before text) ++ left_in before text
back before [] = append-nil before
back before (x ∷ text) = by (is_line_feed x) refl (back [] text) (back (before ++ x ∷ []) text)
  where
    by : (b : Bool) → is_line_feed x ≡ b → text ≡ flat_map ended (lines_in [] text) ++ left_in [] text → (before ++ x ∷ []) ++ text ≡ flat_map ended (lines_in (before ++ x ∷ []) text) ++ left_in (before ++ x ∷ []) text →
        before ++ x ∷ text ≡ flat_map ended (cond b (before ∷ lines_in [] text) (lines_in (before ++ x ∷ []) text)) ++ cond b (left_in [] text) (left_in (before ++ x ∷ []) text)
    by true e new more =
        let feed : x ≡ 10 = grind (arith, nat_tests, e) in
        ap (λ (y : ℕ). before ++ y ∷ text) feed
        ∙ ap (λ (l : List ℕ). before ++ 10 ∷ l) new
        ∙ sym (append_assoc before (10 ∷ []) (flat_map ended (lines_in [] text) ++ left_in [] text))
        ∙ sym (append_assoc (before ++ 10 ∷ []) (flat_map ended (lines_in [] text)) (left_in [] text))
    by false e new more = sym (append_assoc before (x ∷ []) text) ∙ more

-- a text is that of a history where its lines are
pub whole-back : (text : List ℕ) (entries : List Entry) → left_of text ≡ [] → lines_of text ≡ history_lines entries → text ≡ whole_text_of entries
whole-back text entries none is = back [] text ∙ ap (λ (l : List ℕ). flat_map ended (lines_of text) ++ l) none ∙ append-nil (flat_map ended (lines_of text)) ∙ ap (flat_map ended) is ∙ sym (whole-lines entries)

-- the lines of a text have no LF
all-in : (before text : List ℕ) → IsLine before → AllLines (lines_in before text)
all-in before [] h = tt
all-in before (x ∷ text) h = by (is_line_feed x) refl (all-in [] text refl) (λ k. all-in (before ++ x ∷ []) text k)
  where
    by : (b : Bool) → is_line_feed x ≡ b → AllLines (lines_in [] text) → (IsLine (before ++ x ∷ []) → AllLines (lines_in (before ++ x ∷ []) text)) → AllLines (cond b (before ∷ lines_in [] text) (lines_in (before ++ x ∷ []) text))
    by true e new more = (h, new)
    by false e new more = more (line-append before (x ∷ []) h (rw e refl))

pub all-lines : (text : List ℕ) → AllLines (lines_of text)
all-lines text = all-in [] text refl
