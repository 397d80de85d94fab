-- What a piece at the front of a text leads a reader to.
use Rattle.std.proofs.Common.{◌≡◌, ℕ, ◌+◌, Bool, true, false, not, cond, ◌||◌, suc, List, [], ◌∷◌, ◌++◌, drop, length, min, IsUtf8, codes, Result, Ok, refl, ap, sym, ◌∙◌, subst, append_assoc, length-append, arith}
use Rattle.std.specs.List.{list_all, flat_map, prefix_len}
use Rattle.std.proofs.lemmas.Bool.{and_parts, or_parts, not-true, cond-true, cond-false}
use Rattle.std.proofs.Math.Seq.{take-append_seam, drop-append_seam, drop-append-add}
use Rattle.qm_frame.specs.Bytes.{is_space, in_number, is_letter}
use Rattle.qm_json.specs.{declared.value.Json.Json, Printing.after_comma, Strings.code_points, Strings.escapes, Strings.quoted}
use Rattle.qm_read.specs.declared.{fault.JsonFault.JsonFault, stack.Expect.TheVariants.CommaOrEnd, stack.Open.Open, token.Lexeme.Lexeme}
use Rattle.qm_read.specs.{declared.token.Token.Token, Faults.run, Faults.on, Faults.ended, Stacks.State, Steps.step}
use Rattle.qm_read.specs.declared.token.Token.TheVariants as tokens
use Rattle.qm_read.specs.Stacks as stacks
use Rattle.qm_read.specs.Strings.{takes_next, ends_string, string_length, text_of}
use Rattle.qm_read.specs.{Tokens.Placed, Tokens.at, Tokens.number_token, Tokens.word_token, Tokens.run_lexeme, Tokens.with_later, Tokens.tokens_here, Tokens.tokens_from, Walks.walk}
use Rattle.qm_read.proofs.{NumberBytes.IsRun, PrintedStrings.points-inside, PrintedStrings.points-read, PrintedStrings.stays}
use Rattle.qm_read.proofs.Advancing.{passed}

-- no number or word goes on with the text
abbrev pub ends_run : List ℕ → Bool
ends_run [] = true
ends_run (x ∷ rest) = not (in_number x || is_letter x)

-- no run goes on with the text
abbrev IsPast : (ℕ → Bool) → List ℕ → Type 0
IsPast p [] = Unit {0}
IsPast p (x ∷ rest) = p x ≡ false

past-number : (rest : List ℕ) → ends_run rest ≡ true → IsPast in_number rest
past-number [] h = tt
past-number (x ∷ rest) h = (or_parts (in_number x) (is_letter x) (not-true _ h)).0

past-word : (rest : List ℕ) → ends_run rest ≡ true → IsPast is_letter rest
past-word [] h = tt
past-word (x ∷ rest) h = (or_parts (in_number x) (is_letter x) (not-true _ h)).1

-- where a run stops
pub run-length : (p : ℕ → Bool) (front rest : List ℕ) → list_all p front ≡ true → IsPast p rest → prefix_len p (front ++ rest) ≡ length front
run-length p [] [] h past = refl
run-length p [] (x ∷ rest) h past = cond-false _ _ _ past
run-length p (x ∷ front) rest h past =
    let parts = and_parts (p x) (list_all p front) h in
    cond-true _ _ _ parts.0 ∙ ap (λ (k : ℕ). 1 + k) (run-length p front rest parts.1 past) ∙ omega arith

-- where a string in double quotes ends
pub ends-at : (taken : Bool) (front rest : List ℕ) → stays taken front ≡ true → string_length 34 taken (front ++ 34 ∷ rest) ≡ length front
ends-at true [] rest h = cc
ends-at false [] rest h = refl
ends-at taken (x ∷ front) rest h =
    let parts = and_parts (not (ends_string 34 taken x)) (stays (takes_next taken x) front) h in
    cond-false _ _ _ (not-true _ parts.0) ∙ ap (λ (k : ℕ). 1 + k) (ends-at (takes_next taken x) front rest parts.1) ∙ omega arith

-- white space at the front
spaces : (place : ℕ) (text : List ℕ) → walk tokens_here [] (prefix_len is_space text) place text ≡ tokens_from place text
spaces place [] = refl
spaces place (x ∷ text) = by (is_space x) refl
  where
    by : (b : Bool) → is_space x ≡ b → walk tokens_here [] (cond b (1 + prefix_len is_space text) 0) place (x ∷ text) ≡ tokens_from place (x ∷ text)
    by true e =
        let m : ℕ = prefix_len is_space text in
        let one : 1 + m ≡ suc m = omega arith in
        rw one (sym (ap (λ (l : Lexeme). with_later l place (λ k. walk tokens_here [] k (place + 1) text)) (cond-true (is_space x) _ _ e)))
    by false e = refl

-- at most so many brackets are open at a time, n is the length of the whole text, and what it is
-- read as is the answer
module _ (limit n : ℕ) (answer : Result Json JsonFault) where
  -- what a text that ends the whole is read as, from a state and a place on
  abbrev pub read_from : State → ℕ → List ℕ → Result Json JsonFault
  read_from s place text = ended (run limit s (tokens_from place text)) n

  -- from the state the text leads to the answer
  abbrev pub Leads : State → List ℕ → Type 0
  Leads s text = (place : ℕ) → read_from s place text ≡ answer

  -- a token, and what follows the bytes that it takes after its first
  token-leads : (s next : State) (t : Token) (place k : ℕ) (text rest : List ℕ) → drop k text ≡ rest → step limit s t place ≡ Ok next → Leads next rest → ended (run limit s (at t place ∷ walk tokens_here [] k (place + 1) text)) n ≡ answer
  token-leads s next t place k text rest d e leads =
      ap (λ (r : Result State JsonFault). ended (on r (λ next. run limit next (walk tokens_here [] k (place + 1) text))) n) e
      ∙ ap (λ (ts : List Placed). ended (run limit next ts) n) (passed tokens_here [] k (place + 1) text ∙ ap (tokens_from (place + 1 + k)) d)
      ∙ leads (place + 1 + k)

  -- a run that begins with x
  run-leads : (p : ℕ → Bool) (token : List ℕ → Token) (x place : ℕ) (more rest : List ℕ) (s next : State) → list_all p more ≡ true → IsPast p rest → step limit s (token (x ∷ more)) place ≡ Ok next → Leads next rest →
      ended (run limit s (with_later (run_lexeme token x (more ++ rest) (prefix_len p (more ++ rest))) place (λ k. walk tokens_here [] k (place + 1) (more ++ rest)))) n ≡ answer
  run-leads p token x place more rest s next h past e leads =
      rw (run-length p more rest h past, take-append_seam more rest)
      (token-leads s next (token (x ∷ more)) place (length more) (more ++ rest) rest (drop-append_seam more rest) e leads)

  pub number-leads : (text : List ℕ) (s next : State) (rest : List ℕ) → IsRun text → ((place : ℕ) → step limit s (number_token place text) place ≡ Ok next) → ends_run rest ≡ true → Leads next rest → Leads s (text ++ rest)
  number-leads text s next rest h e k leads = λ place.
      let l : Lexeme = run_lexeme (number_token place) h.first (h.more ++ rest) (prefix_len in_number (h.more ++ rest)) in
      subst (λ (l : List ℕ). read_from s place (l ++ rest) ≡ answer) (sym h.is)
      (ap (λ (l : Lexeme). ended (run limit s (with_later l place (λ k. walk tokens_here [] k (place + 1) (h.more ++ rest)))) n) (cond-false _ _ _ h.space ∙ cond-true _ l _ h.begins)
      ∙ run-leads in_number (number_token place) h.first place h.more rest s next h.goes (past-number rest k) (ap (λ (l : List ℕ). step limit s (number_token place l) place) (sym h.is) ∙ e place) leads)

  pub null-leads : (s next : State) (rest : List ℕ) → ((place : ℕ) → step limit s tokens.Null place ≡ Ok next) → ends_run rest ≡ true → Leads next rest → Leads s (codes "null" ++ rest)
  null-leads s next rest e k leads = λ place. run-leads is_letter (word_token place) 110 place (codes "ull") rest s next refl (past-word rest k) (e place) leads

  pub bool-leads : (b : Bool) (s next : State) (rest : List ℕ) → ((place : ℕ) → step limit s (tokens.Bool b) place ≡ Ok next) → ends_run rest ≡ true → Leads next rest → Leads s (cond b (codes "true") (codes "false") ++ rest)
  bool-leads true s next rest e k leads = λ place. run-leads is_letter (word_token place) 116 place (codes "rue") rest s next refl (past-word rest k) (e place) leads
  bool-leads false s next rest e k leads = λ place. run-leads is_letter (word_token place) 102 place (codes "alse") rest s next refl (past-word rest k) (e place) leads

  -- a string in double quotes, by its bytes and what they stand for
  string-goes : (raw bytes rest : List ℕ) (s next : State) (place : ℕ) → stays false raw ≡ true → text_of place raw ≡ Ok bytes → step limit s (tokens.Str bytes) place ≡ Ok next → Leads next rest → read_from s place (34 ∷ (raw ++ 34 ∷ rest)) ≡ answer
  string-goes raw bytes rest s next place h t e leads =
      let more : min (length raw + 1) (length (raw ++ 34 ∷ rest)) ≡ length raw + 1 = omega (arith, length-append raw (34 ∷ rest)) in
      rw (ends-at false raw rest h, more, take-append_seam raw (34 ∷ rest), drop-append_seam raw (34 ∷ rest), t)
      (token-leads s next (tokens.Str bytes) place (length raw + 1) (raw ++ 34 ∷ rest) rest (drop-append-add raw (34 ∷ rest) 1) e leads)

  pub string-leads : (bytes : List ℕ) (s next : State) (rest : List ℕ) → IsUtf8 bytes → ((place : ℕ) → step limit s (tokens.Str bytes) place ≡ Ok next) → Leads next rest → Leads s (quoted bytes ++ rest)
  string-leads bytes s next rest u e leads = λ place.
      let text : List ℕ = escapes (code_points bytes) in
      ap (λ (l : List ℕ). read_from s place (34 ∷ l)) (append_assoc text (34 ∷ []) rest)
      ∙ string-goes text bytes rest s next place (points-inside bytes u) (points-read bytes place u) (e place) leads

  pub space-leads : (s : State) (text : List ℕ) → Leads s text → Leads s (32 ∷ text)
  space-leads s text leads = λ place. ap (λ (ts : List Placed). ended (run limit s ts) n) (spaces (place + 1) text) ∙ leads (place + 1)

  -- a text after a comma and a space
  pub comma-leads : (stack : List Open) (text : List ℕ) (texts : List (List ℕ)) (rest : List ℕ) → Leads (record { stack = stack; expect = stacks.after_comma stack }) (text ++ (flat_map after_comma texts ++ rest)) → Leads (record { stack = stack; expect = CommaOrEnd }) (flat_map after_comma (text ∷ texts) ++ rest)
  comma-leads stack text texts rest leads = λ place.
      ap (λ (l : List ℕ). read_from (record { stack = stack; expect = CommaOrEnd }) place (44 ∷ 32 ∷ l)) (append_assoc text (flat_map after_comma texts) rest)
      ∙ space-leads (record { stack = stack; expect = stacks.after_comma stack }) (text ++ (flat_map after_comma texts ++ rest)) leads (place + 1)

-- no number or word goes on where texts after commas follow, and what ends runs after them
pub commas-end : (texts : List (List ℕ)) (rest : List ℕ) → ends_run rest ≡ true → ends_run (flat_map after_comma texts ++ rest) ≡ true
commas-end [] rest h = h
commas-end (text ∷ texts) rest h = refl
