-- What the bytes of a string stand for, part by part; bytes that stand for themselves.
use Rattle.std.proofs.Common.{◌≡◌, ℕ, ◌+◌, ◌<◌, ◌≤◌, Bool, true, false, cond, ◌==◌, suc, List, [], ◌∷◌, ◌++◌, drop, length, Some, None, Result, Ok, Err, refl, ap, sym, ◌∙◌, arith, append_assoc, slice_index, take, get_or, min, drop-cons}
use Rattle.std.proofs.lemmas.{Bool.Decides.nat_tests, Str.is_utf8-from_IsUtf8, Str.IsUtf8-from_ascii, Str.Ascii.IsAscii-cons, Str.Ascii.IsAscii-nil}
use Rattle.std.specs.{Str.continuation_len, Str.is_utf8, List.prefix_len}
use Rattle.qm_read.specs.{declared.fault.JsonFault.JsonFault, declared.strings.Part.Part, declared.strings.Part.TheVariants.Same, Progress.Advances, Progress.decoded_from}
use Rattle.qm_read.specs.Strings.{character, part, text_in, more_in, followed_by, after_part, text_here, text_after, text_of, takes_next, ends_string, string_length}
use Rattle.qm_read.proofs.Advancing.{passed}
use Rattle.qm_read.specs.{declared.token.Lexeme.Lexeme, Escapes.escape, Spans.is_plain, Tokens.string_token, Tokens.string_lexeme}
use Rattle.qm_read.specs.declared.token.Token.TheVariants as tokens

-- a byte below 128 is a character
ascii : (x : ℕ) → x < 128 → is_utf8 (x ∷ []) ≡ true
ascii x h = is_utf8-from_IsUtf8 (x ∷ []) (IsUtf8-from_ascii (x ∷ []) (IsAscii-cons x [] h IsAscii-nil))

alone : (x : ℕ) → x < 128 → continuation_len x ≡ 0
alone x h = grind (arith, nat_tests, h)

pub character_ascii : (place x : ℕ) (rest : List ℕ) → x < 128 → character place x rest ≡ Ok (Same 0)
character_ascii place x rest h = rw (alone x h, ascii x h) refl

-- one part, and what follows it
pub followed_by-twice : (text more : List ℕ) (r : Result (List ℕ) JsonFault) → followed_by text (followed_by more r) ≡ followed_by (text ++ more) r
followed_by-twice text more (Ok t) = ap (λ (l : List ℕ). Ok l) (sym (append_assoc text more t))
followed_by-twice text more (Err f) = refl

first_stands : (bytes : List ℕ) (place : ℕ) (p : Part) → 0 < length bytes → part place (slice_index bytes 0) (drop 1 bytes) ≡ Ok p → text_after 0 place bytes ≡ followed_by (text_in p bytes) (text_after 0 (place + 1 + more_in p) (drop (suc (more_in p)) bytes))
first_stands [] place p h e = absurd (omega (arith, h))
first_stands (x ∷ rest) place p h e =
    ap (λ (r : Result Part JsonFault). after_part r (x ∷ rest) (λ k. text_after k (place + 1) rest)) e
    ∙ ap (followed_by (text_in p (x ∷ rest))) (passed text_here (Ok []) (more_in p) (place + 1) rest)

-- a part at the front was appended
pub part_taken : (old new bytes : List ℕ) (place more : ℕ) (p : Part) → 0 < length bytes → Ok p ≡ part place (slice_index bytes 0) (drop 1 bytes) → more_in p < length bytes → more ≡ more_in p → new ≡ old ++ text_in p bytes → Advances decoded_from old place bytes (Ok (1 + more)) new
part_taken old new bytes place more p h e fits m n =
    let count : 1 + more ≡ suc (more_in p) = omega (arith, m) in
    let next : place + suc (more_in p) ≡ place + 1 + more_in p = omega arith in (
      omega arith,
      omega (arith, m, fits),
      ap (followed_by old) (first_stands bytes place p h (sym e))
          ∙ followed_by-twice old (text_in p bytes) (text_after 0 (place + 1 + more_in p) (drop (suc (more_in p)) bytes))
          ∙ rw (n, count, next) refl,
    )

bad_stands : (bytes : List ℕ) (place : ℕ) (f : JsonFault) → 0 < length bytes → part place (slice_index bytes 0) (drop 1 bytes) ≡ Err f → text_after 0 place bytes ≡ Err f
bad_stands [] place f h e = absurd (omega (arith, h))
bad_stands (x ∷ rest) place f h e = ap (λ (r : Result Part JsonFault). after_part r (x ∷ rest) (λ k. text_after k (place + 1) rest)) e

-- a part at the front is refused
pub part_refused : (old bytes : List ℕ) (place : ℕ) (f : JsonFault) → 0 < length bytes → Err f ≡ part place (slice_index bytes 0) (drop 1 bytes) → followed_by old (text_after 0 place bytes) ≡ Err f
part_refused old bytes place f h e = ap (followed_by old) (bad_stands bytes place f h (sym e))

pub after_nothing : (r : Result (List ℕ) JsonFault) → followed_by [] r ≡ r
after_nothing (Ok t) = refl
after_nothing (Err f) = refl

pub no_parts : (start : ℕ) (raw : List ℕ) → decoded_from [] (start + 1 + 0) raw ≡ text_of start raw
unfolding text_of
no_parts start raw = after_nothing (text_after 0 (start + 1 + 0) raw) ∙ ap (λ (place : ℕ). text_after 0 place raw) (omega arith)

low : (q x : ℕ) → is_plain q x ≡ true → x < 128
low q x h = grind (arith, nat_tests, h)

no_backslash : (q x : ℕ) → is_plain q x ≡ true → (x == 92) ≡ false
no_backslash q x h = grind (arith, nat_tests, h)

goes_on : (q x : ℕ) → is_plain q x ≡ true → ends_string q false x ≡ false
goes_on q x h = grind (arith, nat_tests, h)

takes_none : (q x : ℕ) → is_plain q x ≡ true → takes_next false x ≡ false
takes_none q x h = grind (arith, nat_tests, h)

closes : (q x : ℕ) → x ≡ q → ends_string q false x ≡ true
closes q x h = grind (arith, nat_tests, h)

one_more : (n : ℕ) → 1 + n ≡ suc n
one_more n = omega arith

-- the first of the bytes stands for itself
first_plain : (q p x : ℕ) (t : List ℕ) → is_plain q x ≡ true → text_after 0 p (x ∷ t) ≡ followed_by (x ∷ []) (text_after 0 (p + 1) t)
first_plain q p x t h =
    ap (λ (b : Bool). after_part (cond b (escape p t) (character p x t)) (x ∷ t) (λ k. text_after k (p + 1) t)) (no_backslash q x h)
    ∙ ap (λ (r : Result Part JsonFault). after_part r (x ∷ t) (λ k. text_after k (p + 1) t)) (character_ascii p x t (low q x h))

-- bytes at the front that stand for themselves, and what follows them
pub plain_front : (q p : ℕ) (xs : List ℕ) → text_after 0 p xs ≡ followed_by (take (prefix_len (is_plain q) xs) xs) (text_after 0 (p + prefix_len (is_plain q) xs) (drop (prefix_len (is_plain q) xs) xs))
plain_front q p [] = refl
plain_front q p (x ∷ xs) = at_test (is_plain q x) refl (plain_front q (p + 1) xs)
  where
    at_test : (b : Bool) → is_plain q x ≡ b → text_after 0 (p + 1) xs ≡ followed_by (take (prefix_len (is_plain q) xs) xs) (text_after 0 (p + 1 + prefix_len (is_plain q) xs) (drop (prefix_len (is_plain q) xs) xs)) → text_after 0 p (x ∷ xs) ≡ followed_by (take (cond b (1 + prefix_len (is_plain q) xs) 0) (x ∷ xs)) (text_after 0 (p + cond b (1 + prefix_len (is_plain q) xs) 0) (drop (cond b (1 + prefix_len (is_plain q) xs) 0) (x ∷ xs)))
    at_test false e inner = sym (after_nothing (text_after 0 (p + 0) (x ∷ xs)) ∙ ap (λ (k : ℕ). text_after 0 k (x ∷ xs)) (omega arith))
    at_test true e inner =
        let n : ℕ = prefix_len (is_plain q) xs in
        let place : p + 1 + n ≡ p + (1 + n) = omega arith in
        rw (← place, one_more n) (first_plain q p x xs e
        ∙ ap (followed_by (x ∷ [])) inner
        ∙ followed_by-twice (x ∷ []) (take n xs) (text_after 0 (p + 1 + n) (drop n xs)))

-- such bytes were appended
pub plain_taken : (old new bytes : List ℕ) (place n : ℕ) → n ≡ prefix_len (is_plain 92) bytes → 0 < n → n ≤ length bytes → new ≡ old ++ take n bytes → Advances decoded_from old place bytes (Ok n) new
plain_taken old new bytes place n e some within m = (
  some,
  within,
  ap (followed_by old) (plain_front 92 place bytes)
      ∙ followed_by-twice old (take (prefix_len (is_plain 92) bytes) bytes) (text_after 0 (place + prefix_len (is_plain 92) bytes) (drop (prefix_len (is_plain 92) bytes) bytes))
      ∙ rw (← e, m) refl,
)

-- such bytes alone
plain_whole : (q p : ℕ) (xs : List ℕ) → text_after 0 p (take (prefix_len (is_plain q) xs) xs) ≡ Ok (take (prefix_len (is_plain q) xs) xs)
plain_whole q p [] = refl
plain_whole q p (x ∷ xs) = at_test (is_plain q x) refl (plain_whole q (p + 1) xs)
  where
    at_test : (b : Bool) → is_plain q x ≡ b → text_after 0 (p + 1) (take (prefix_len (is_plain q) xs) xs) ≡ Ok (take (prefix_len (is_plain q) xs) xs) → text_after 0 p (take (cond b (1 + prefix_len (is_plain q) xs) 0) (x ∷ xs)) ≡ Ok (take (cond b (1 + prefix_len (is_plain q) xs) 0) (x ∷ xs))
    at_test false e inner = refl
    at_test true e inner = rw (one_more (prefix_len (is_plain q) xs)) (first_plain q p x (take (prefix_len (is_plain q) xs) xs) e ∙ ap (followed_by (x ∷ [])) inner)

extent : (q : ℕ) (xs tail : List ℕ) → drop (prefix_len (is_plain q) xs) xs ≡ q ∷ tail → string_length q false xs ≡ prefix_len (is_plain q) xs
extent q [] tail h = refl
extent q (x ∷ xs) tail h = at_test (is_plain q x) refl h (extent q xs tail)
  where
    at_test : (b : Bool) → is_plain q x ≡ b → drop (cond b (1 + prefix_len (is_plain q) xs) 0) (x ∷ xs) ≡ q ∷ tail → (drop (prefix_len (is_plain q) xs) xs ≡ q ∷ tail → string_length q false xs ≡ prefix_len (is_plain q) xs) → string_length q false (x ∷ xs) ≡ cond b (1 + prefix_len (is_plain q) xs) 0
    at_test false e h inner = let same : x ≡ q = cc in rw (closes q x same) refl
    at_test true e h inner =
        let left : drop (prefix_len (is_plain q) xs) xs ≡ q ∷ tail = ap (λ (k : ℕ). drop k (x ∷ xs)) (sym (one_more (prefix_len (is_plain q) xs))) ∙ h in
        rw (goes_on q x e, takes_none q x e, inner left) refl

plain_text : (place q : ℕ) (rest : List ℕ) → text_of place (take (prefix_len (is_plain q) rest) rest) ≡ Ok (take (prefix_len (is_plain q) rest) rest)
unfolding text_of
plain_text place q rest = plain_whole q (place + 1) rest

-- a string of such bytes up to its closing quote
pub plain_lexeme : (place q n : ℕ) (rest : List ℕ) → n ≡ prefix_len (is_plain q) rest → n < length rest → get_or rest n 0 ≡ q →
    string_lexeme place q rest (string_length q false rest) ≡ record { token = Some (tokens.Str (take n rest)); more = n + 1 }
plain_lexeme place q n rest e lt at =
    let m : ℕ = prefix_len (is_plain q) rest in
    let left : drop m rest ≡ q ∷ drop (suc m) rest = rw (← e) (drop-cons rest n 0 lt ∙ ap (λ (x : ℕ). x ∷ drop (suc n) rest) at) in
    let short : min (m + 1) (length rest) ≡ n + 1 = omega (arith, e, lt) in
    let same : (q == q) ≡ true = grind (arith, nat_tests) in
    ap (string_lexeme place q rest) (extent q rest (drop (suc m) rest) left)
    ∙ rw (left, same, short, e) (ap (λ (r : Result (List ℕ) JsonFault). let l : Lexeme = record { token = Some (string_token r None); more = m + 1 } in l) (plain_text place q rest))
