-- Reading a text line by line.
use Rattle.std.proofs.Common.{◌≡◌, ℕ, ◌+◌, ◌<◌, ◌≤◌, Bool, true, false, List, [], ◌∷◌, ◌++◌, length, take, drop, Option, Some, None, position, refl, ap, sym, ◌∙◌, subst, arith, append_assoc, append-nil, length-append}
use Rattle.std.specs.Prelude.{nat_lt}
use Rattle.std.proofs.lemmas.Bool.Decides.{nat_tests}
use Rattle.std.proofs.lemmas.List.{drop-drop, drop_all, length-drop}
use Rattle.qm_core.specs.declared.entries.Entry.{Entry}
use Rattle.qm_history.specs.declared.reading.Reading.{Reading, TheVariants.Between, TheVariants.Ended}
use Rattle.qm_history.specs.Lines.{is_line_feed, AllLines, lines_of, left_of}
use Rattle.qm_history.specs.Histories.{BeginHistory, IsHistory, FirstWrong, wrong, short}
use Rattle.qm_history.specs.Forms.{AreHistory}
use Rattle.qm_history.specs.Readings.{ReadsTo, step, on, run}
use Rattle.qm_history.proofs.LineLaws.{cut, wont-feed, wont-position, whole-cut, whole-back, all-lines}
use Rattle.qm_history.proofs.FormLaws.{lines-front}
use Rattle.qm_history.proofs.ReadingLaws.{Holds, run-append, taken-holds, begins, begins-taken, ended-history, history-ended, history-told, some-state}

-- the text of a history by its lines
are-history : (text : List ℕ) (entries : List Entry) → IsHistory text entries → AreHistory (lines_of text) entries × (left_of text ≡ [])
are-history text entries h =
    let cut = whole-cut entries h.each in
    (record { each = h.each; is = ap lines_of h.is ∙ cut.0 }, ap left_of h.is ∙ cut.1)

is-history : (text : List ℕ) (entries : List Entry) → AreHistory (lines_of text) entries → left_of text ≡ [] → IsHistory text entries
is-history text entries h none = record { each = h.each; is = whole-back text entries none h.is }

-- lines before others in a text
before-each : (text : List ℕ) (before after : List (List ℕ)) → lines_of text ≡ before ++ after → AllLines before
before-each text before after is = lines-front before after (subst AllLines is (all-lines text))

drop-twice : (n m : ℕ) (text : List ℕ) → drop m (drop n text) ≡ drop (n + m) text
drop-twice n m text = drop-drop m n text

pub reads-begin : (text : List ℕ) → ReadsTo text 0 1 (Between [])
reads-begin text = record { before = []; lines = refl; left = refl; count = refl; led = refl }

-- one line more
more-led : (before : List (List ℕ)) (line : List ℕ) (s : Reading) → run (Between []) before ≡ Some s → run (Between []) (before ++ line ∷ []) ≡ on (step s line) (λ next. Some next)
more-led before line s e = run-append (Between []) before (line ∷ []) ∙ ap (λ (o : Option Reading). on o (λ t. run t (line ∷ []))) e

pub reads-next : (text : List ℕ) (place line at : ℕ) (s next : Reading) → ReadsTo text place line s → position is_line_feed (drop place text) ≡ Some at → step s (take at (drop place text)) ≡ Some next → ReadsTo text (place + (at + 1)) (line + 1) next
reads-next text place line at s next r found e =
    let c = cut (drop place text) at found in
    let rest : drop (at + 1) (drop place text) ≡ drop (place + (at + 1)) text = drop-twice place (at + 1) text in
    let one : List ℕ = take at (drop place text) in
    record {
      before = r.before ++ one ∷ [];
      lines = r.lines ∙ ap (λ (l : List (List ℕ)). r.before ++ l) c.lines ∙ sym (append_assoc r.before (one ∷ []) (lines_of (drop (at + 1) (drop place text)))) ∙ ap (λ (t : List ℕ). (r.before ++ one ∷ []) ++ lines_of t) rest;
      left = r.left ∙ c.left ∙ ap left_of rest;
      count = omega (arith, r.count, length-append r.before (one ∷ []));
      led = more-led r.before one s r.led ∙ ap (λ (o : Option Reading). on o (λ next. Some next)) e;
    }

-- what was read is held by the lines before
holds : (text : List ℕ) (place line : ℕ) (s : Reading) (r : ReadsTo text place line s) → Holds r.before s
holds text place line s r = taken-holds r.before s (before-each text r.before _ r.lines) r.led

pub reads-refused : (text : List ℕ) (place line at : ℕ) (s : Reading) → ReadsTo text place line s → position is_line_feed (drop place text) ≡ Some at → step s (take at (drop place text)) ≡ None → FirstWrong text line
reads-refused text place line at s r found e =
    let c = cut (drop place text) at found in
    let one : List ℕ = take at (drop place text) in
    subst (FirstWrong text) (sym r.count) (wrong r.before (lines_of (drop (at + 1) (drop place text))) one (r.lines ∙ ap (λ (l : List (List ℕ)). r.before ++ l) c.lines)
    (begins r.before s (holds text place line s r))
    (λ b. begins-taken (r.before ++ one ∷ []) b (more-led r.before one s r.led ∙ ap (λ (o : Option Reading). on o (λ next. Some next)) e)))

-- all lines were taken
module _ (text : List ℕ) (place line : ℕ) (s : Reading) (r : ReadsTo text place line s) (none : lines_of (drop place text) ≡ []) where
  no-more : lines_of text ≡ r.before
  no-more = r.lines ∙ ap (λ (l : List (List ℕ)). r.before ++ l) none ∙ append-nil r.before

  reads-short : ((entries : List Entry) → IsHistory text entries → ⊥) → FirstWrong text line
  reads-short wont = subst (FirstWrong text) (ap (λ (l : List (List ℕ)). length l + 1) no-more ∙ sym r.count) (short (subst BeginHistory (sym no-more) (begins r.before s (holds text place line s r))) wont)

  ended-as : (entries : List Entry) → IsHistory text entries → s ≡ Ended entries
  ended-as entries h = some-state s (Ended entries) (sym r.led ∙ ap (run (Between [])) (sym no-more) ∙ history-ended (lines_of text) entries (are-history text entries h).0)

filled : (text : List ℕ) → 0 < length text → text ≡ [] → ⊥
filled [] h e = omega (arith, h)
filled (x ∷ text) h e = cc

-- the last line lacks its LF
pub reads-unfinished : (text : List ℕ) (place line : ℕ) (s : Reading) → ReadsTo text place line s → place < length text → position is_line_feed (drop place text) ≡ None → FirstWrong text line
reads-unfinished text place line s r within found =
    let rest = wont-feed [] (drop place text) (wont-position (drop place text) found) in
    let long : 0 < length (drop place text) = omega (arith, length-drop place text) in
    reads-short text place line s r rest.0 (λ entries h. filled (drop place text) long (sym rest.1 ∙ sym r.left ∙ (are-history text entries h).1))

nothing-left : (text : List ℕ) (place : ℕ) → length text ≤ place → drop place text ≡ []
nothing-left text place h = drop_all place text h

pub reads-whole : (text : List ℕ) (place line : ℕ) (entries : List Entry) → length text ≤ place → ReadsTo text place line (Ended entries) → IsHistory text entries
reads-whole text place line entries past r =
    let rest = nothing-left text place past in
    is-history text entries (subst (λ (l : List (List ℕ)). AreHistory l entries) (sym (no-more text place line (Ended entries) r (ap lines_of rest))) (ended-history r.before entries (holds text place line (Ended entries) r))) (r.left ∙ ap left_of rest)

-- one text has one answer

prefix-begins : (a b : List (List ℕ)) → BeginHistory (a ++ b) → BeginHistory a
prefix-begins a b h = record { more = b ++ h.more; entries = h.entries; each = h.each; is = sym (append_assoc a b h.more) ∙ h.is }

record IsLater (a : List (List ℕ)) (l : List ℕ) (b : List (List ℕ)) : Type 0 where
  between : List (List ℕ)
  is : b ≡ (a ++ l ∷ []) ++ between

head_in_lines : List (List ℕ) → List ℕ
head_in_lines [] = []
head_in_lines (x ∷ l) = x

later : (a b c d : List (List ℕ)) (l : List ℕ) → a ++ l ∷ c ≡ b ++ d → length a < length b → IsLater a l b
later a [] c d l e h = absurd (omega (arith, h))
later [] (y ∷ b) c d l e h = let same : l ≡ y = cc in record { between = b; is = ap (λ (z : List ℕ). z ∷ b) (sym same) }
later (x ∷ a) (y ∷ b) c d l e h =
    let same : x ≡ y = cc in
    let rest : a ++ l ∷ c ≡ b ++ d = ap (λ (t : List (List ℕ)). drop 1 t) e in
    let inner = later a b c d l rest (omega (arith, h)) in
    record { between = inner.between; is = ap (λ (z : List ℕ). z ∷ b) (sym same) ∙ ap (λ (t : List (List ℕ)). x ∷ t) inner.is }

-- no line from a wrong one on stands before what begins a history
not-past : (text : List ℕ) (before after more : List (List ℕ)) (line : List ℕ) (b : List (List ℕ)) → lines_of text ≡ before ++ line ∷ after → (BeginHistory (before ++ line ∷ []) → ⊥) → lines_of text ≡ b ++ more → BeginHistory b → length before < length b → ⊥
not-past text before after more line b e wont f has h =
    let l = later before b after more line (sym e ∙ f) h in
    wont (prefix-begins (before ++ line ∷ []) l.between (subst BeginHistory l.is has))

pub reads-open : (text : List ℕ) (place line : ℕ) (s : Reading) → length text ≤ place → ((entries : List Entry) → s ≡ Ended entries → ⊥) → ReadsTo text place line s → FirstWrong text line
reads-open text place line s past wont r =
    let rest = ap lines_of (nothing-left text place past) in
    reads-short text place line s r rest (λ others h. wont others (ended-as text place line s r rest others h))

pub history-right : (text : List ℕ) (entries : List Entry) (n : ℕ) → IsHistory text entries → FirstWrong text n → ⊥
history-right text entries n h (wrong before after line e b wont) = wont record { more = after; entries = entries; each = h.each; is = append_assoc before (line ∷ []) after ∙ sym e ∙ ap lines_of h.is }
history-right text entries n h (short b wont) = wont entries h

not-all : (text : List ℕ) (before after : List (List ℕ)) (line : List ℕ) → lines_of text ≡ before ++ line ∷ after → (BeginHistory (before ++ line ∷ []) → ⊥) → BeginHistory (lines_of text) → ⊥
not-all text before after line e wont b = wont (prefix-begins (before ++ line ∷ []) after (subst BeginHistory (e ∙ sym (append_assoc before (line ∷ []) after)) b))

apart : (a b : ℕ) → (a < b → ⊥) → (b < a → ⊥) → a ≡ b
apart a b h k = by (nat_lt a b) (nat_lt b a) refl refl
  where
    by : (x y : Bool) → nat_lt a b ≡ x → nat_lt b a ≡ y → a ≡ b
    by true y e f = absurd (h (grind (arith, nat_tests)))
    by false true e f = absurd (k (grind (arith, nat_tests)))
    by false false e f = grind (arith, nat_tests)

pub first-told : (text : List ℕ) (m n : ℕ) → FirstWrong text m → FirstWrong text n → m ≡ n
first-told text m n (wrong before after line e b wont) (wrong others rest other f d cant) =
    ap (λ (k : ℕ). k + 1) (apart (length before) (length others)
    (λ h. not-past text before after (other ∷ rest) line others e wont f d h)
    (λ h. not-past text others rest (line ∷ after) other before f cant e b h))
first-told text m n (wrong before after line e b wont) (short d cant) = absurd (not-all text before after line e wont d)
first-told text m n (short b wont) (wrong others rest other f d cant) = absurd (not-all text others rest other f cant b)
first-told text m n (short b wont) (short d cant) = refl

pub reading-told : (text : List ℕ) (entries others : List Entry) → IsHistory text entries → IsHistory text others → entries ≡ others
reading-told text entries others h k = history-told (lines_of text) entries others (are-history text entries h).0 (are-history text others k).0
