-- The code points of bytes, chunk by chunk, and of a text, one by one.
use Rattle.std.proofs.Common.{◌≡◌, ℕ, ◌<◌, Bool, true, false, not, cond, ◌==◌, List, [], ◌∷◌, ◌++◌, length, drop, IsUtf8, refl, ap, sym, ◌∙◌, arith, append_assoc, append-nil}
use Rattle.std.specs.{Str.chars, Str.Lossy.utf8_lossy, Str.Lossy.utf8_valid_len, Str.Lossy.utf8_invalid_len, Str.Lossy.replacement_bytes, Char.encode_utf8}
use Rattle.std.proofs.lemmas.Str.{chars-append, chars_past_char, utf8_lossy_chunk, utf8_lossy_last_chunk, utf8_lossy_empty, chars-nil, IsUtf8-encode}
use Rattle.std.proofs.lemmas.{Grind.flat_map-append, Bool.Decides.nat_tests}
use Rattle.qm_json.specs.Strings.{code_points, escaped, escapes, chunk_escapes}

replacement_char : chars replacement_bytes ≡ 0xFFFD ∷ []
unfolding chars
replacement_char = refl

replacement_text : IsUtf8 replacement_bytes
unfolding encode_utf8
replacement_text = IsUtf8-encode 0xFFFD refl

-- a chunk: a text, and bytes that are not UTF-8 where more follow
pub record IsChunk (bs valid invalid rest : List ℕ) : Type 0 where
  pub parts : bs ≡ valid ++ (invalid ++ rest)
  pub text : IsUtf8 valid
  pub valid_len : length valid ≡ utf8_valid_len bs
  pub invalid_len : length invalid ≡ utf8_invalid_len (drop (utf8_valid_len bs) bs)
  pub last : length invalid ≡ 0 → length rest ≡ 0

pub chunk_of : (bs rest front bad valid invalid : List ℕ) → valid ≡ front → invalid ≡ bad → IsUtf8 valid →
    (bs ≡ front ++ (bad ++ rest)) × (length rest < length bs) × (length bad ≡ 0 → length rest ≡ 0)
    × ((length front ≡ utf8_valid_len bs) × (length bad ≡ utf8_invalid_len (drop (utf8_valid_len bs) bs))) →
    IsChunk bs valid invalid rest
chunk_of bs rest front bad valid invalid e f u h = record { parts = rw (e, f) h.0; text = u; valid_len = ap length e ∙ h.3.0; invalid_len = ap length f ∙ h.3.1; last = λ z. h.2 (sym (ap length f) ∙ z) }

escapes-append : (xs ys : List ℕ) → escapes (xs ++ ys) ≡ escapes xs ++ escapes ys
escapes-append xs ys = flat_map-append escaped xs ys

pub no_chars : (text : List ℕ) → length text ≡ 0 → escapes (chars text) ≡ []
no_chars [] e = rw chars-nil
no_chars (x ∷ text) e = cc

pub char_left : (text rest : List ℕ) (c : ℕ) → IsUtf8 text → text ≡ encode_utf8 c ++ rest → escapes (chars text) ≡ escaped c ++ escapes (chars rest)
char_left text rest c u e = ap escapes (chars_past_char text rest c u e)

pub no_points : (bs : List ℕ) → length bs ≡ 0 → escapes (code_points bs) ≡ []
no_points bs e = rw (utf8_lossy_empty bs e, chars-nil) refl

points_left : (bs valid invalid rest : List ℕ) (faulty : Bool) → IsChunk bs valid invalid rest → not (length invalid == 0) ≡ faulty → code_points bs ≡ chars valid ++ (cond faulty (0xFFFD ∷ []) [] ++ code_points rest)
points_left bs valid invalid rest true h e =
    let some : 0 < length invalid = grind (arith, nat_tests) in
    ap chars (utf8_lossy_chunk bs valid invalid rest h.parts h.valid_len h.invalid_len some)
    ∙ chars-append valid (replacement_bytes ++ utf8_lossy rest) h.text
    ∙ ap (λ l. chars valid ++ l) (chars-append replacement_bytes (utf8_lossy rest) replacement_text ∙ ap (λ l. l ++ chars (utf8_lossy rest)) replacement_char)
points_left bs valid invalid rest false h e =
    let none : length invalid ≡ 0 = grind (arith, nat_tests) in
    ap chars (utf8_lossy_last_chunk bs valid invalid rest h.parts h.valid_len none (h.last none)) ∙ chars-append valid (utf8_lossy rest) h.text

pub chunk_left : (bs valid invalid rest : List ℕ) (faulty : Bool) → IsChunk bs valid invalid rest → faulty ≡ not (length invalid == 0) → escapes (code_points bs) ≡ chunk_escapes valid faulty ++ escapes (code_points rest)
chunk_left bs valid invalid rest true h e = ap escapes (points_left bs valid invalid rest true h (sym e)) ∙ escapes-append (chars valid) (0xFFFD ∷ code_points rest) ∙ sym (append_assoc (escapes (chars valid)) (escaped 0xFFFD) (escapes (code_points rest)))
chunk_left bs valid invalid rest false h e = ap escapes (points_left bs valid invalid rest false h (sym e)) ∙ escapes-append (chars valid) (code_points rest) ∙ rw append-nil refl
