-- The entries of a legal journal have a text, where its values can be read back.
use Rattle.std.proofs.Common.{◌≡◌, ℕ, ◌+◌, ◌^◌, ◌<◌, ◌≤◌, zero, suc, Bool, true, false, not, cond, List, [], ◌∷◌, ◌++◌, length, map, drop, reverse, Option, Some, refl, ap, sym, subst, arith, append-nil, length-append}
use Rattle.std.specs.List.{take_while}
use Rattle.std.proofs.lemmas.List.{length-drop, length-map, map-append}
use Rattle.std.proofs.lemmas.List.Sums.{take_while-cons}
use Rattle.qm_caps.specs.declared.mode.Lane.{Lane, TheVariants.InBand}
use Rattle.qm_core.specs.Legal.{AllFollow, IsLegal}
use Rattle.qm_core.specs.Order.{MayFollow, MayAdmit}
use Rattle.qm_core.specs.Standing.{is_open, running_of, open_out_of_band_of, named_of}
use Rattle.qm_core.specs.Transcript.{Candidate, passes_limit, lines_in as candidate_lines, with_line, candidates_of, transcript_of, taken_of, untaken_of}
use Rattle.qm_core.specs.declared.entries.Entry.{Entry, TheVariants.Open, TheVariants.Admit, TheVariants.Start, TheVariants.Done, TheVariants.OobDone, TheVariants.Take, TheVariants.Eof, TheVariants.Drop}
use Rattle.qm_core.specs.declared.inputs.Input.{Input, TheVariants.Doc, TheVariants.Bad}
use Rattle.qm_core.specs.declared.requests.{Request.Request}
use Rattle.qm_core.specs.declared.world.World.{World}
use Rattle.qm_core.proofs.Holding.{Each, Holding, IsGood, hold, none-held}
use Rattle.qm_core.proofs.Journals.{earlier}
use Rattle.qm_core.proofs.Pasts.{open_opened, opened-within, few-sessions, few-admitted, named, begins}
use Rattle.qm_history.specs.Lines.{IsLine, AllLines}
use Rattle.qm_history.specs.Histories.{without_plan, HasName, HasInput, HasText, AllHaveText, HasCleanReply, AllHaveCleanReplies, IsHistory, whole_text_of}
use Rattle.qm_history.proofs.EntryLines.{whole-told}
use Rattle.qm_history.proofs.FormLaws.{lines-append}
use Rattle.qm_history.proofs.Greeting.{greeting-line}
use Rattle.qm_history.proofs.JournalTexts.{turned}
use Rattle.qm_history.proofs.PrintedLines.{printed-line}

-- names of requests

session-small : (s : ℕ) (past : List Entry) → AllFollow past → is_open s past ≡ true → s < 2 ^ 32
session-small s past legal h = omega (arith, (opened-within s past legal (open_opened s past h)).1, few-sessions past legal)

abbrev IsSmall : Lane → Request → Type 0
IsSmall lane q = HasName q.session q.number

admit-name : (past : List Entry) (s k : ℕ) (lane : Lane) (input : Input) → AllFollow past → length past + 1 < 2 ^ 64 → MayAdmit past s k lane input → HasName s k
admit-name past s k lane input legal short may = record { session = session-small s past legal may.is_open; number = omega (arith, short, may.next, few-admitted s past) }

small-good : (e : Entry) (past : List Entry) → AllFollow past → length past + 1 < 2 ^ 64 → MayFollow past e → IsGood IsSmall past e
small-good (Open s) past legal short may = tt
small-good (Admit s k lane input) past legal short may = admit-name past s k lane input legal short may
small-good (Start s k) past legal short may = tt
small-good (Done s k plan reply moment) past legal short may = tt
small-good (OobDone s k plan reply moment) past legal short may = tt
small-good (Take s lines) past legal short may = tt
small-good (Eof s) past legal short may = tt
small-good (Drop s cause) past legal short may = tt

all-small : (past : List Entry) → AllFollow past → length past < 2 ^ 64 → Holding IsSmall past
all-small [] legal short = none-held IsSmall
all-small (e ∷ past) legal short = hold IsSmall e past (small-good e past legal.1 (omega (arith, short)) legal.0) (all-small past legal.1 (omega (arith, short)))

named-small : (request : Option Request) (s k : ℕ) → named_of request ≡ Some record { session = s; number = k } → ((q : Request) → request ≡ Some q → HasName q.session q.number) → HasName s k
named-small request s k h small =
    let n = named request s k h in
    let has = small n.found n.is in
    record { session = subst (λ (u : ℕ). u < 2 ^ 32) n.session has.session; number = subst (λ (u : ℕ). u < 2 ^ 64) n.number has.number }

-- lines that are sent

drop-lines : (n : ℕ) (lines : List (List ℕ)) → AllLines lines → AllLines (drop n lines)
drop-lines zero lines h = h
drop-lines (suc n) [] h = tt
drop-lines (suc n) (line ∷ lines) h = drop-lines n lines h.1

while-lines : (p : Candidate → Bool) (cs : List Candidate) → AllLines (candidate_lines cs) → AllLines (candidate_lines (take_while p cs)) × (length (take_while p cs) ≤ length cs)
while-lines p [] h = (tt, omega arith)
while-lines p (c ∷ cs) h = subst (λ (l : List Candidate). AllLines (candidate_lines l) × (length l ≤ length (c ∷ cs))) (sym (take_while-cons p c cs)) (by (p c) (while-lines p cs h.1))
  where
    by : (b : Bool) → AllLines (candidate_lines (take_while p cs)) × (length (take_while p cs) ≤ length cs) → AllLines (candidate_lines (cond b (c ∷ take_while p cs) [])) × (length (cond b (c ∷ take_while p cs) []) ≤ length (c ∷ cs))
    by true rest = ((h.0, rest.0), omega (arith, rest.1))
    by false rest = (tt, omega arith)

-- so many candidates, each a line
pub record AreLines (cs : List Candidate) (most : ℕ) : Type 0 where
  pub each : AllLines (candidate_lines cs)
  pub few : length cs ≤ most

more-line : (b : Bool) (cs : List Candidate) (taken : List (List ℕ)) (line : List ℕ) (most : ℕ) → IsLine line → AreLines cs most → AreLines (cond b (with_line cs taken line) cs) (suc most)
more-line true cs taken line most one are =
    let last : List Candidate = record { line = line; overruns = passes_limit (candidate_lines cs) taken line } ∷ [] in
    record {
      each = subst AllLines (sym (map-append (λ (c : Candidate). c.line) cs last)) (lines-append (candidate_lines cs) (line ∷ []) are.each (one, tt));
      few = omega (arith, are.few, length-append cs last);
    }
more-line false cs taken line most one are = record { each = are.each; few = omega (arith, are.few) }

same-lines : (cs : List Candidate) (most : ℕ) → AreLines cs most → AreLines cs (suc most)
same-lines cs most are = record { each = are.each; few = omega (arith, are.few) }

candidates-are : (s : ℕ) (past : List Entry) → AllHaveCleanReplies past → AreLines (candidates_of s past) (length past)
candidates-are s [] h = record { each = tt; few = omega arith }
candidates-are s (Open t ∷ past) h = more-line _ (candidates_of s past) (taken_of s past) _ (length past) greeting-line (candidates-are s past h.1)
candidates-are s (Admit t k lane input ∷ past) h = same-lines (candidates_of s past) (length past) (candidates-are s past h.1)
candidates-are s (Start t k ∷ past) h = same-lines (candidates_of s past) (length past) (candidates-are s past h.1)
candidates-are s (Done t k plan reply moment ∷ past) h = more-line _ (candidates_of s past) (taken_of s past) _ (length past) (printed-line reply h.0) (candidates-are s past h.1)
candidates-are s (OobDone t k plan reply moment ∷ past) h = more-line _ (candidates_of s past) (taken_of s past) _ (length past) (printed-line reply h.0) (candidates-are s past h.1)
candidates-are s (Take t lines ∷ past) h = same-lines (candidates_of s past) (length past) (candidates-are s past h.1)
candidates-are s (Eof t ∷ past) h = same-lines (candidates_of s past) (length past) (candidates-are s past h.1)
candidates-are s (Drop t cause ∷ past) h = same-lines (candidates_of s past) (length past) (candidates-are s past h.1)

untaken-lines : (s : ℕ) (past : List Entry) → AllHaveCleanReplies past → AllLines (untaken_of s past) × (length (untaken_of s past) ≤ length past)
untaken-lines s past h =
    let are = candidates-are s past h in
    let front = while-lines _ (candidates_of s past) are.each in (
      drop-lines (length (taken_of s past)) (transcript_of s past) front.0,
      omega (arith, are.few, front.1, length-drop (length (taken_of s past)) (transcript_of s past), length-map (take_while (λ c. not c.overruns) (candidates_of s past)) (λ (c : Candidate). c.line)),
    )

-- entries

input-has : (past : List Entry) (s k : ℕ) (lane : Lane) (input : Input) → MayAdmit past s k lane input → HasInput lane input
input-has past s k lane (Doc value) may = may.clean
input-has past s k lane (Bad bad) may = subst (λ (l : Lane). HasInput l (Bad bad)) (sym may.in_lane) may.clean

entry-text : (past : List Entry) (e : Entry) → AllFollow past → MayFollow past e → length past + 1 < 2 ^ 64 → AllHaveCleanReplies past → HasCleanReply e → HasText (without_plan e)
entry-text past (Open s) legal may short values h = omega (arith, may.few)
entry-text past (Admit s k lane input) legal may short values h = record { request = admit-name past s k lane input legal short may; value = input-has past s k lane input may }
entry-text past (Start s k) legal may short values h =
    let b = begins past s k may in
    let each = subst (λ l. Each (IsSmall InBand) l) b.waiting ((all-small past legal (omega (arith, short))).waits s) in
    record { session = subst (λ (u : ℕ). u < 2 ^ 32) b.session each.0.session; number = subst (λ (u : ℕ). u < 2 ^ 64) b.number each.0.number }
entry-text past (Done s k plan reply moment) legal may short values h = record {
  request = named-small (running_of past) s k may.running (all-small past legal (omega (arith, short))).runs;
  planless = refl;
  below = may.timed.below;
  clean = h;
}
entry-text past (OobDone s k plan reply moment) legal may short values h = record {
  request = named-small (open_out_of_band_of s past) s k may.request ((all-small past legal (omega (arith, short))).opens s);
  planless = refl;
  below = may.timed.below;
  clean = h;
}
entry-text past (Take s lines) legal may short values h =
    let untaken = untaken-lines s past values in
    record {
      name = record { session = session-small s past legal may.is_open; number = omega (arith, short, untaken.1, ap (λ (l : List (List ℕ)). length l) may.all) };
      each = subst AllLines (sym may.all) untaken.0;
    }
entry-text past (Eof s) legal may short values h = session-small s past legal may.is_open
entry-text past (Drop s cause) legal may short values h = session-small s past legal may.is_open

journal-text : (journal past : List Entry) → AllFollow (reverse journal ++ past) → length past + length journal < 2 ^ 64 → AllHaveCleanReplies past → AllHaveCleanReplies journal → AllHaveText (map without_plan journal)
journal-text [] past legal short values h = tt
journal-text (e ∷ journal) past legal short values h =
    let all : AllFollow (reverse journal ++ e ∷ past) = subst AllFollow (turned e journal past) legal in
    let here = earlier (reverse journal) (e ∷ past) all in
    (entry-text past e here.1 here.0 (omega (arith, short)) values h.0, journal-text journal (e ∷ past) all (omega (arith, short)) (h.0, values) h.1)

-- the text of a legal journal is the history of its entries without their plans
pub legal-told : (world : World) (journal : List Entry) → IsLegal world journal → length journal < 2 ^ 64 → AllHaveCleanReplies journal → IsHistory (whole_text_of journal) (map without_plan journal)
legal-told world journal legal short values =
    whole-told journal (journal-text journal [] (subst AllFollow (sym (append-nil (reverse journal))) legal.ordered) (omega (arith, short)) tt values)
