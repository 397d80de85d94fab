-- Walks over a text, loops that take it part by part, and what is read once its first lexeme was taken.
use Rattle.std.proofs.Common.{◌≡◌, ◌≢◌, ℕ, ◌+◌, ◌-◌, ◌<◌, ◌≤◌, zero, suc, List, [], ◌∷◌, take, drop, length, Result, Ok, Err, refl, ap, sym, ◌∙◌, arith, slice_index, add-one, ◌++◌, Option, Some, None}
use Rattle.std.proofs.{lemmas.List.length-drop, lemmas.List.drop-drop, Math.ListN.drop_of_length-le}
use Rattle.qm_read.specs.declared.fault.JsonFault.{JsonFault, TheVariants.Memory}
use Rattle.qm_read.specs.{Progress.Advances, Progress.reading_from, Walks.walk, declared.token.Lexeme.Lexeme, declared.token.Token.Token}
use Rattle.qm_read.specs.{Faults.run, Faults.on, Faults.ended, Faults.reading_within, Stacks.State, Stacks.begun, Steps.step}
use Rattle.qm_read.specs.Tokens.{Placed, lexeme_of, placed, with_later, tokens_here, tokens_from, tokens_of}

-- what is passed over is left out
pub passed : {X A : Type 0} (here : ℕ → X → List X → (ℕ → A) → A) (none : A) (k place : ℕ) (rest : List X) → walk here none k place rest ≡ walk here none 0 (place + k) (drop k rest)
passed here none zero place rest = ap (λ (p : ℕ). walk here none 0 p rest) (omega arith)
passed here none (suc k) place [] = refl
passed here none (suc k) place (x ∷ rest) = passed here none k (place + 1) rest ∙ ap (λ (p : ℕ). walk here none 0 p (drop k rest)) (omega arith)

-- the first item of a list, and some of those after it
pub front_taken : (n : ℕ) (xs : List ℕ) → 0 < length xs → take (n + 1) xs ≡ slice_index xs 0 ∷ take n (drop 1 xs)
front_taken n [] h = absurd (omega (arith, h))
front_taken n (x ∷ xs) h = ap (λ (k : ℕ). take k (x ∷ xs)) (add-one n)

-- what a text comes to by what was made of its front and what is left of it
module _ {S R : Type 0} (whole : S → ℕ → List ℕ → Result R JsonFault) (answer : Result R JsonFault) (text : List ℕ) where
  pub record IsLeft (s : S) (place i : ℕ) : Type 0 where
    pub within : i ≤ length text
    pub is : whole s place (drop i text) ≡ answer

  -- bytes that are taken or refused
  module _ (s new : S) (place i : ℕ) (rest : List ℕ) (at : rest ≡ drop i text) (left : IsLeft s place i) where
    here : whole s place rest ≡ answer
    here = ap (whole s place) at ∙ left.is

    pub still-left : (n next : ℕ) → next ≡ place + n → Advances whole s place rest (Ok n) new → IsLeft new next (i + n)
    still-left n next e h =
        let size : length rest ≡ length text - i = ap length at ∙ length-drop i text in
        let le : n ≤ length rest = h.1 in
        let start : i ≤ length text = left.within in
        record {
          within = omega (arith, le, size, start);
          is = ap (λ (p : ℕ). whole new p (drop (i + n) text)) e ∙ ap (whole new (place + n)) (sym (drop-drop n i text) ∙ ap (drop n) (sym at)) ∙ sym h.2 ∙ here;
        }

    pub refused-here : (fault : JsonFault) → fault ≢ Memory → Advances whole s place rest (Err fault) new → Err fault ≡ answer
    refused-here fault known h = sym (h known) ∙ here

  -- nothing is left
  pub at-end : (s : S) (place i : ℕ) → length text ≤ i → IsLeft s place i → whole s place [] ≡ answer
  at-end s place i h left = ap (whole s place) (sym (drop_of_length-le text h)) ∙ left.is

-- the tokens of a text are that of its first lexeme, and those of what follows it
later-tokens : (place : ℕ) (text : List ℕ) (l : Lexeme) → 0 < length text → l ≡ lexeme_of place (slice_index text 0) (drop 1 text) → tokens_from place text ≡ placed l.token place ++ tokens_from (place + (1 + l.more)) (drop (1 + l.more) text)
later-tokens place [] l some is = absurd (omega (arith, some))
later-tokens place (x ∷ rest) l some is =
    let one : 1 + l.more ≡ suc l.more = omega arith in
    let next : place + suc l.more ≡ place + 1 + l.more = omega arith in
    ap (λ (m : Lexeme). with_later m place (λ k. walk tokens_here [] k (place + 1) rest)) (sym is)
    ∙ ap (λ (ts : List Placed). placed l.token place ++ ts) (passed tokens_here [] l.more (place + 1) rest ∙ rw (one, next) refl)

module _ (limit : ℕ) (s new : State) (place : ℕ) (text : List ℕ) (l : Lexeme) (some : 0 < length text) (is : l ≡ lexeme_of place (slice_index text 0) (drop 1 text)) (short : l.more < length text) where
  abbrev Later : List Placed
  Later = tokens_from (place + (1 + l.more)) (drop (1 + l.more) text)

  tokens : (o : Option Token) → l.token ≡ o → reading_from limit s place text ≡ ended (run limit s (placed o place ++ Later)) (place + length text)
  tokens o e = ap (λ (ts : List Placed). ended (run limit s ts) (place + length text)) (later-tokens place text l some is ∙ ap (λ (o : Option Token). placed o place ++ Later) e)

  taken : reading_from limit s place text ≡ ended (run limit new Later) (place + length text) → Advances (reading_from limit) s place text (Ok (1 + l.more)) new
  taken e =
      let size : place + length text ≡ place + (1 + l.more) + length (drop (1 + l.more) text) = omega (arith, length-drop (1 + l.more) text, short) in
      (omega arith, omega (arith, short), e ∙ ap (ended (run limit new Later)) size)

  -- a token that may stand there
  pub one_taken : (token : Token) → l.token ≡ Some token → step limit s token place ≡ Ok new → Advances (reading_from limit) s place text (Ok (1 + l.more)) new
  one_taken token e h = taken (tokens (Some token) e ∙ ap (λ (r : Result State JsonFault). ended (on r (λ next. run limit next Later)) (place + length text)) h)

  -- a token that is refused
  pub one_refused : (token : Token) (fault : JsonFault) → l.token ≡ Some token → step limit s token place ≡ Err fault → reading_from limit s place text ≡ Err fault
  one_refused token fault e h = tokens (Some token) e ∙ ap (λ (r : Result State JsonFault). ended (on r (λ next. run limit next Later)) (place + length text)) h

-- white space
pub none_taken : (limit : ℕ) (s : State) (place : ℕ) (text : List ℕ) (l : Lexeme) → 0 < length text → l ≡ lexeme_of place (slice_index text 0) (drop 1 text) → l.more < length text → l.token ≡ None → Advances (reading_from limit) s place text (Ok (1 + l.more)) s
none_taken limit s place text l some is short e = taken limit s s place text l some is short (tokens limit s s place text l some is short None e)

-- a text is read from its beginning
pub from_begin : (limit : ℕ) (text : List ℕ) → reading_from limit begun 0 text ≡ reading_within limit text
unfolding reading_within tokens_of
from_begin limit text = ap (ended (run limit begun (tokens_from 0 text))) (omega arith)
