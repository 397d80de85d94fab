-- The tokens of a text hold what a clean value may hold, and stand in the text.
use Rattle.std.proofs.Common.{◌≡◌, ℕ, ◌+◌, ◌*◌, ◌<◌, ◌≤◌, true, false, cond, ◌&&◌, ◌||◌, ◌==◌, Bool, zero, suc, List, [], ◌∷◌, take, drop, length, Option, Some, None, Result, Ok, Err, IfSome, refl, arith, add-one, ◌++◌, codes}
use Rattle.std.proofs.lemmas.{Bool.and_parts, Bool.cond_both, Bool.Decides.nat_tests, List.length-take, List.take_min}
use Rattle.std.proofs.lemmas.Str.{IsUtf8-append, IsUtf8-encode, IsUtf8-nil, IsUtf8-from_is_utf8, is_utf8-from_IsUtf8}
use Rattle.std.specs.Char.{digit_value, IsScalar, Utf16.is_high_surrogate, Utf16.is_low_surrogate, Utf16.surrogate_pair_char}
use Rattle.std.specs.{Str.continuation_len, Str.is_utf8, Str.IsUtf8, Str.bytes_eq, List.prefix_len, Str.Parse.signed_digits_value}
use Rattle.qm_read.specs.declared.{fault.JsonFault.JsonFault, strings.Part.Part}
use Rattle.qm_read.specs.Escapes.{is_hex, hex_of, unicode_of, pair_of, unicode_escape, escaped_byte, short_escape, escape}
use Rattle.qm_read.specs.Strings.{part, text_in, more_in, followed_by, after_part, text_after, text_of, takes_next, ends_string, string_length}
use Rattle.qm_read.specs.{Texts.IsWithin, declared.token.Lexeme.Lexeme, declared.token.Token.Token}
use Rattle.qm_frame.specs.Bytes.{is_space, begins_number, in_number, is_letter, is_quote}
use Rattle.qm_json.specs.Numbers.{is_literal, is_whole_part, after_minus, is_whole_literal, is_in_whole_range}
use Rattle.qm_read.specs.declared.token.Token.TheVariants as tokens
use Rattle.qm_read.specs.Tokens.{Placed, literal_token, number_token, word_token, mark_token, string_token, stop_at, string_lexeme, lexeme_of, placed, tokens_here, tokens_of}
use Rattle.qm_read.specs.Walks.{walk}

below_hex : (x : ℕ) → is_hex x ≡ true → digit_value x < 16
below_hex x h = grind (arith, nat_tests, h)

hex_some : (b : Bool) (m n : ℕ) → cond b (Some m) None ≡ Some n → (b ≡ true) × (m ≡ n)
hex_some true m n e = (refl, cc)
hex_some false m n e = cc

hex_of-below : (text : List ℕ) (n : ℕ) → hex_of text ≡ Some n → n < 65536
hex_of-below [] n e = cc
hex_of-below (x ∷ []) n e = cc
hex_of-below (x ∷ y ∷ []) n e = cc
hex_of-below (x ∷ y ∷ z ∷ []) n e = cc
hex_of-below (a ∷ b ∷ c ∷ d ∷ rest) n e =
    let all : (is_hex a && is_hex b && is_hex c && is_hex d ≡ true) × (((digit_value a * 16 + digit_value b) * 16 + digit_value c) * 16 + digit_value d ≡ n) = hex_some _ _ _ e in
    let abc = and_parts (is_hex a && is_hex b && is_hex c) (is_hex d) all.0 in
    let ab = and_parts (is_hex a && is_hex b) (is_hex c) abc.0 in
    let a_b = and_parts (is_hex a) (is_hex b) ab.0 in
    omega (arith, below_hex a a_b.0, below_hex b a_b.1, below_hex c ab.1, below_hex d abc.1, all.1)

lone : (c : ℕ) → c < 65536 → (is_high_surrogate c || is_low_surrogate c) ≡ false → IsScalar c
lone c h e = grind (arith, nat_tests, h, e)

paired : (high low : ℕ) → (is_high_surrogate high && is_low_surrogate low) ≡ true → IsScalar (surrogate_pair_char high low)
paired high low e = grind (arith, nat_tests, e)

escaped-low : (x c : ℕ) → escaped_byte x ≡ Some c → IsScalar c
escaped-low x c e = grind (arith, nat_tests, e)

taken : (x n : ℕ) (rest : List ℕ) → take (length (take n rest) + 1) (x ∷ rest) ≡ x ∷ take n rest
taken x n rest = rw (add-one, length-take n rest, take_min n rest) refl

-- of a text of this length
module _ (n : ℕ) where
  -- UTF-8, or a fault of the text
  abbrev pub IsClear : Result (List ℕ) JsonFault → Type 0
  IsClear (Ok text) = IsUtf8 text
  IsClear (Err fault) = IsWithin n fault

  module _ (bytes : List ℕ) (place : ℕ) (within : place < n) where
    abbrev PartClear : Result Part JsonFault → Type 0
    PartClear (Ok p) = IsUtf8 (text_in p bytes)
    PartClear (Err fault) = IsWithin n fault

    pair_of-clear : (high : ℕ) (low : Option ℕ) → PartClear (pair_of place high low)
    pair_of-clear high None = within
    pair_of-clear high (Some low) =
        cond_both (is_high_surrogate high && is_low_surrogate low) _ _ PartClear (λ e. IsUtf8-encode (surrogate_pair_char high low) (paired high low e)) (λ e. within)

    unicode_escape-clear : (code : Option ℕ) (rest : List ℕ) → ((c : ℕ) → code ≡ Some c → c < 65536) → PartClear (unicode_escape place code rest)
    unicode_escape-clear None rest h = within
    unicode_escape-clear (Some c) rest h =
        cond_both (is_high_surrogate c || is_low_surrogate c) _ _ PartClear (λ e. pair_of-clear c (unicode_of rest)) (λ e. IsUtf8-encode c (lone c (h c refl) e))

    short_escape-clear : (code : Option ℕ) → ((c : ℕ) → code ≡ Some c → IsScalar c) → PartClear (short_escape place code)
    short_escape-clear None h = within
    short_escape-clear (Some c) h = IsUtf8-encode c (h c refl)

    escape-clear : (rest : List ℕ) → PartClear (escape place rest)
    escape-clear [] = within
    escape-clear (x ∷ rest) =
        cond_both (x == 117) _ _ PartClear (λ e. unicode_escape-clear (hex_of rest) (drop 4 rest) (hex_of-below rest)) (λ e. short_escape-clear (escaped_byte x) (escaped-low x))

  part-clear : (place x : ℕ) (rest : List ℕ) (h : place < n) → PartClear (x ∷ rest) place h (part place x rest)
  part-clear place x rest h =
      let more : List ℕ = take (continuation_len x) rest in
      cond_both (x == 92) _ _ (PartClear (x ∷ rest) place h) (λ e. escape-clear (x ∷ rest) place h rest) (λ e.
      cond_both (is_utf8 (x ∷ more)) _ _ (PartClear (x ∷ rest) place h) (λ e. rw (taken x (continuation_len x) rest) (IsUtf8-from_is_utf8 (x ∷ more) e)) (λ e. h))

  followed_by-clear : (text : List ℕ) (r : Result (List ℕ) JsonFault) → IsUtf8 text → IsClear r → IsClear (followed_by text r)
  followed_by-clear text (Ok more) h k = IsUtf8-append text more h k
  followed_by-clear text (Err fault) h k = k

  after_part-clear : (bytes : List ℕ) (place : ℕ) (within : place < n) (r : Result Part JsonFault) (later : ℕ → Result (List ℕ) JsonFault) → PartClear bytes place within r → ((k : ℕ) → IsClear (later k)) → IsClear (after_part r bytes later)
  after_part-clear bytes place within (Ok p) later h k = followed_by-clear (text_in p bytes) (later (more_in p)) h (k (more_in p))
  after_part-clear bytes place within (Err fault) later h k = h

  text_after-clear : (k place : ℕ) (bytes : List ℕ) → place + length bytes ≤ n → IsClear (text_after k place bytes)
  text_after-clear k place [] h = IsUtf8-nil
  text_after-clear (suc k) place (x ∷ rest) h = text_after-clear k (place + 1) rest (omega (arith, h))
  text_after-clear zero place (x ∷ rest) h =
      let here : place < n = omega (arith, h) in
      after_part-clear (x ∷ rest) place here (part place x rest) (λ k. text_after k (place + 1) rest) (part-clear place x rest here) (λ k. text_after-clear k (place + 1) rest (omega (arith, h)))

  pub text_of-clear : (place : ℕ) (raw : List ℕ) → place + 1 + length raw ≤ n → IsClear (text_of place raw)
  unfolding text_of
  text_of-clear place raw h = text_after-clear 0 (place + 1) raw h

string_length-le : (quote : ℕ) (taken : Bool) (xs : List ℕ) → string_length quote taken xs ≤ length xs
string_length-le quote taken [] = omega arith
string_length-le quote taken (x ∷ xs) =
    let inner = string_length-le quote (takes_next taken x) xs in
    cond_both (ends_string quote taken x) _ _ (λ (k : ℕ). k ≤ suc (length xs)) (λ e. omega arith) (λ e. omega (arith, inner))

-- of a text of this length
module _ (n : ℕ) where
  abbrev pub IsSound : Token → Type 0
  IsSound (tokens.Int i) = is_in_whole_range i ≡ true
  IsSound (tokens.Num text) = (is_literal text ≡ true) × (is_whole_literal text ≡ false)
  IsSound (tokens.Str text) = is_utf8 text ≡ true
  IsSound (tokens.Bad fault) = IsWithin n fault
  IsSound _ = Unit {0}

  pub record IsSoundAt (t : Placed) : Type 0 where
    pub place : t.place < n
    pub token : IsSound t.token

  abbrev pub AreSound : List Placed → Type 0
  AreSound [] = Unit {0}
  AreSound (t ∷ ts) = IsSoundAt t × AreSound ts

  pub sound-front : (ts us : List Placed) → AreSound (ts ++ us) → AreSound ts
  sound-front [] us h = tt
  sound-front (t ∷ ts) us h = (h.0, sound-front ts us h.1)

  pub sound-rest : (ts us : List Placed) → AreSound (ts ++ us) → AreSound us
  sound-rest [] us h = h
  sound-rest (t ∷ ts) us h = sound-rest ts us h.1

  literal-sound : (text : List ℕ) (b : Bool) → is_literal text ≡ true → is_whole_literal text ≡ b → IsSound (literal_token text (cond b (Some (signed_digits_value 10 text)) None))
  literal-sound text true h e = (and_parts (is_whole_part (after_minus text)) (is_in_whole_range (signed_digits_value 10 text)) e).1
  literal-sound text false h e = (h, e)

  number-sound : (place : ℕ) (text : List ℕ) → place ≤ n → IsSound (number_token place text)
  number-sound place text h = cond_both (is_literal text) _ _ IsSound (λ e. literal-sound text (is_whole_literal text) e refl) (λ e. h)

  word-sound : (place : ℕ) (text : List ℕ) → place ≤ n → IsSound (word_token place text)
  word-sound place text h =
      cond_both (bytes_eq text (codes "null")) _ _ IsSound (λ e. tt) (λ e.
      cond_both (bytes_eq text (codes "true")) _ _ IsSound (λ e. tt) (λ e.
      cond_both (bytes_eq text (codes "false")) _ _ IsSound (λ e. tt) (λ e. h)))

  mark-sound : (place x : ℕ) → place ≤ n → IsSound (mark_token place x)
  mark-sound place x h =
      cond_both (x == 123) _ _ IsSound (λ e. tt) (λ e.
      cond_both (x == 125) _ _ IsSound (λ e. tt) (λ e.
      cond_both (x == 91) _ _ IsSound (λ e. tt) (λ e.
      cond_both (x == 93) _ _ IsSound (λ e. tt) (λ e.
      cond_both (x == 58) _ _ IsSound (λ e. tt) (λ e.
      cond_both (x == 44) _ _ IsSound (λ e. tt) (λ e. h))))))

  string-sound : (r : Result (List ℕ) JsonFault) (stop : Option ℕ) → IsClear n r → IfSome stop (λ place. place ≤ n) → IsSound (string_token r stop)
  string-sound (Err fault) stop h k = h
  string-sound (Ok text) None h k = is_utf8-from_IsUtf8 text h
  string-sound (Ok text) (Some place) h k = k

  stop-within : (place quote : ℕ) (rest : List ℕ) → place ≤ n → IfSome (stop_at place quote rest) (λ place. place ≤ n)
  stop-within place quote [] h = h
  stop-within place quote (y ∷ rest) h = cond_both (y == quote) _ _ (λ (o : Option ℕ). IfSome o (λ place. place ≤ n)) (λ e. tt) (λ e. h)

  abbrev LexemeSound : Lexeme → Type 0
  LexemeSound l = IfSome l.token IsSound

  string_lexeme-sound : (place quote : ℕ) (rest : List ℕ) (k : ℕ) → place + 1 + length rest ≤ n → k ≤ length rest → LexemeSound (string_lexeme place quote rest k)
  string_lexeme-sound place quote rest k h le =
      string-sound (text_of place (take k rest)) (stop_at (place + 1 + k) quote (drop k rest)) (text_of-clear n place (take k rest) (omega (arith, h, length-take k rest))) (stop-within (place + 1 + k) quote (drop k rest) (omega (arith, h, le)))

  lexeme-sound : (place x : ℕ) (rest : List ℕ) → place + 1 + length rest ≤ n → LexemeSound (lexeme_of place x rest)
  lexeme-sound place x rest h =
      let here : place ≤ n = omega (arith, h) in
      cond_both (is_space x) _ _ LexemeSound (λ e. tt) (λ e.
      cond_both (begins_number x) _ _ LexemeSound (λ e. number-sound place (x ∷ take (prefix_len in_number rest) rest) here) (λ e.
      cond_both (is_letter x) _ _ LexemeSound (λ e. word-sound place (x ∷ take (prefix_len is_letter rest) rest) here) (λ e.
      cond_both (is_quote x) _ _ LexemeSound (λ e. string_lexeme-sound place x rest (string_length x false rest) h (string_length-le x false rest)) (λ e.
      mark-sound place x here))))

  placed-sound : (o : Option Token) (place : ℕ) (ts : List Placed) → place < n → IfSome o IsSound → AreSound ts → AreSound (placed o place ++ ts)
  placed-sound None place ts h s k = k
  placed-sound (Some t) place ts h s k = (record { place = h; token = s }, k)

  walk-sound : (k place : ℕ) (bytes : List ℕ) → place + length bytes ≤ n → AreSound (walk tokens_here [] k place bytes)
  walk-sound k place [] h = tt
  walk-sound (suc k) place (x ∷ rest) h = walk-sound k (place + 1) rest (omega (arith, h))
  walk-sound zero place (x ∷ rest) h =
      let l : Lexeme = lexeme_of place x rest in
      placed-sound l.token place _ (omega (arith, h)) (lexeme-sound place x rest (omega (arith, h))) (walk-sound l.more (place + 1) rest (omega (arith, h)))

pub tokens-sound : (text : List ℕ) → AreSound (length text) (tokens_of text)
unfolding tokens_of
tokens-sound text = walk-sound (length text) 0 0 text (omega arith)
