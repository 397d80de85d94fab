-- A printed string is read as the bytes that it was printed for.
use Rattle.std.proofs.Common.{◌≡◌, ℕ, ◌+◌, ◌-◌, ◌/◌, ◌%◌, ◌*◌, ◌<◌, ◌≤◌, Bool, true, false, not, ◌&&◌, ◌||◌, ◌==◌, nat_lt, List, [], ◌∷◌, ◌++◌, Option, Some, Result, Ok, refl, ap, ◌∙◌, arith, nat_le, codes, IsUtf8, sym, subst}
use Rattle.std.specs.Char.{digit_value, encode_utf8, IsScalar, Utf16.is_high_surrogate, Utf16.is_low_surrogate, Utf16.surrogate_pair_char}
use Rattle.std.specs.{List.flat_map, Str.chars, Str.encode_utf8_all, Str.all_scalars}
use Rattle.std.proofs.lemmas.Bool.{cond_both, cond-true, cond-false, ltb-true, ltb-false, and_parts, eqb-true, Decides.nat_tests}
use Rattle.qm_json.specs.Strings.{hex_digit, unit_escape, unicode_escape, code_points, plain_or_unicode, escaped, escapes}
use Rattle.qm_read.specs.{declared.fault.JsonFault.JsonFault, declared.strings.Part.Part, declared.strings.Part.TheVariants.Char, Escapes.is_hex, Escapes.hex_of, Escapes.unicode_of, Escapes.pair_of}
use Rattle.qm_read.specs.Escapes as escapes_read
use Rattle.qm_read.specs.Strings.{takes_next, ends_string, part, followed_by, after_part, text_after, is_control, text_of}
use Rattle.std.proofs.lemmas.Str.{encode_ascii, encodes-chars, scalars-chars}
use Rattle.qm_json.proofs.PrintLaws.{code_points-IsUtf8}
use Rattle.qm_read.proofs.StringLemmas.{character_ascii}

-- no byte ends a string in double quotes, and the last backslash took a byte
abbrev pub stays : Bool → List ℕ → Bool
stays taken [] = not taken
stays taken (x ∷ rest) = not (ends_string 34 taken x) && stays (takes_next taken x) rest

-- the text stands for the character in a string, whatever follows it
pub record ReadsAs (c : ℕ) (text : List ℕ) : Type 0 where
  pub inside : (more : List ℕ) → stays false (text ++ more) ≡ stays false more
  pub reads : (more whole : List ℕ) → ((place : ℕ) → text_after 0 place more ≡ Ok whole) → (place : ℕ) → text_after 0 place (text ++ more) ≡ Ok (encode_utf8 c ++ whole)

-- a byte that neither ends a string nor begins an escape
pub record IsOrdinary (x : ℕ) : Type 0 where
  goes : ends_string 34 false x ≡ false
  free : takes_next false x ≡ false

pub ordinary : (x : ℕ) → 32 ≤ x → (x == 34) ≡ false → (x == 92) ≡ false → IsOrdinary x
ordinary x h e f = record { goes = grind (arith, nat_tests, h, e); free = grind (arith, nat_tests, f) }

pub passes : (x : ℕ) (more : List ℕ) → IsOrdinary x → stays false (x ∷ more) ≡ stays false more
passes x more o = rw (o.goes, o.free) refl

-- hexadecimal digits
hex-back : (n : ℕ) → n < 16 → digit_value (hex_digit n) ≡ n
hex-back n h = grind (arith, nat_tests, h)

hex-ordinary : (n : ℕ) → n < 16 → IsOrdinary (hex_digit n)
hex-ordinary n h = ordinary (hex_digit n) (grind (arith, nat_tests, h)) (grind (arith, nat_tests, h)) (grind (arith, nat_tests, h))

is-hex : (n : ℕ) → n < 16 → is_hex (hex_digit n) ≡ true
is-hex n h = ap (λ (d : ℕ). nat_lt d 16) (hex-back n h) ∙ grind (arith, nat_tests, h)

-- the four digits of a unit
record AreDigits (u : ℕ) : Type 0 where
  first : u / 4096 < 16
  second : u / 256 % 16 < 16
  third : u / 16 % 16 < 16
  fourth : u % 16 < 16

digits : (u : ℕ) → u < 65536 → AreDigits u
digits u h = record { first = omega (arith, h); second = omega arith; third = omega arith; fourth = omega arith }

value : (u : ℕ) → u < 65536 → ((u / 4096 * 16 + u / 256 % 16) * 16 + u / 16 % 16) * 16 + u % 16 ≡ u
value u h = omega (arith, h)

unit-value : (u : ℕ) (more : List ℕ) → u < 65536 → hex_of (hex_digit (u / 4096) ∷ hex_digit (u / 256 % 16) ∷ hex_digit (u / 16 % 16) ∷ hex_digit (u % 16) ∷ more) ≡ Some u
unit-value u more h =
    let d = digits u h in
    rw (is-hex _ d.first, is-hex _ d.second, is-hex _ d.third, is-hex _ d.fourth, hex-back _ d.first, hex-back _ d.second, hex-back _ d.third, hex-back _ d.fourth) (ap (λ (n : ℕ). Some n) (value u h))

passes_four : (a b c d : ℕ) (more : List ℕ) → IsOrdinary a → IsOrdinary b → IsOrdinary c → IsOrdinary d → stays false (a ∷ b ∷ c ∷ d ∷ more) ≡ stays false more
passes_four a b c d more e f g h = passes a (b ∷ c ∷ d ∷ more) e ∙ passes b (c ∷ d ∷ more) f ∙ passes c (d ∷ more) g ∙ passes d more h

unit-inside : (u : ℕ) (more : List ℕ) → u < 65536 → stays false (unit_escape u ++ more) ≡ stays false more
unit-inside u more h =
    let d = digits u h in
    passes_four (hex_digit (u / 4096)) (hex_digit (u / 256 % 16)) (hex_digit (u / 16 % 16)) (hex_digit (u % 16)) more
    (hex-ordinary _ d.first) (hex-ordinary _ d.second) (hex-ordinary _ d.third) (hex-ordinary _ d.fourth)

-- what follows the backslash
abbrev after_backslash : ℕ → List ℕ → List ℕ
after_backslash u more = 117 ∷ hex_digit (u / 4096) ∷ hex_digit (u / 256 % 16) ∷ hex_digit (u / 16 % 16) ∷ hex_digit (u % 16) ∷ more

unit-part : (place u : ℕ) (more : List ℕ) → u < 65536 → part place 92 (after_backslash u more) ≡ escapes_read.unicode_escape place (Some u) more
unit-part place u more h = ap (λ (o : Option ℕ). escapes_read.unicode_escape place o more) (unit-value u more h)

unit-reads : (c : ℕ) → c < 65536 → (is_high_surrogate c || is_low_surrogate c) ≡ false → ReadsAs c (unit_escape c)
unit-reads c h lone = record {
  inside = λ more. unit-inside c more h;
  reads = λ more whole next place.
      ap (λ (r : Result Part JsonFault). after_part r (92 ∷ after_backslash c more) (λ k. text_after k (place + 1) (after_backslash c more))) (unit-part place c more h ∙ cond-false _ _ _ lone)
      ∙ ap (followed_by (encode_utf8 c)) (next _);
}

-- a code point past 0xFFFF, by its two units
high : ℕ → ℕ
high c = 0xD800 + (c - 0x1_0000) / 0x400

low : ℕ → ℕ
low c = 0xDC00 + (c - 0x1_0000) % 0x400

record IsPair (c : ℕ) : Type 0 where
  high_fits : high c < 65536
  low_fits : low c < 65536
  is_high : is_high_surrogate (high c) ≡ true
  is_low : is_low_surrogate (low c) ≡ true
  is : surrogate_pair_char (high c) (low c) ≡ c

pair : (c : ℕ) → 65536 ≤ c → c < 0x11_0000 → IsPair c
unfolding high low
pair c h l = record { high_fits = omega (arith, h, l); low_fits = omega (arith, h, l); is_high = grind (arith, nat_tests, h, l); is_low = grind (arith, nat_tests, h, l); is = omega (arith, h, l) }

pair-part : (place c : ℕ) (more : List ℕ) → IsPair c → part place 92 (after_backslash (high c) (92 ∷ after_backslash (low c) more)) ≡ Ok (Char c 11)
pair-part place c more p =
    unit-part place (high c) (92 ∷ after_backslash (low c) more) p.high_fits
    ∙ cond-true (is_high_surrogate (high c) || is_low_surrogate (high c)) _ _ (ap (λ (b : Bool). b || is_low_surrogate (high c)) p.is_high)
    ∙ ap (pair_of place (high c)) (unit-value (low c) more p.low_fits)
    ∙ cond-true (is_high_surrogate (high c) && is_low_surrogate (low c)) _ _ (ap (λ (b : Bool). b && is_low_surrogate (low c)) p.is_high ∙ p.is_low)
    ∙ ap (λ (n : ℕ). Ok (Char n 11)) p.is

pair-reads : (c : ℕ) → IsPair c → ReadsAs c (unit_escape (high c) ++ unit_escape (low c))
pair-reads c p = record {
  inside = λ more. unit-inside (high c) (unit_escape (low c) ++ more) p.high_fits ∙ unit-inside (low c) more p.low_fits;
  reads = λ more whole next place.
      ap (λ (r : Result Part JsonFault). after_part r (92 ∷ after_backslash (high c) (92 ∷ after_backslash (low c) more)) (λ k. text_after k (place + 1) (after_backslash (high c) (92 ∷ after_backslash (low c) more)))) (pair-part place c more p)
      ∙ ap (followed_by (encode_utf8 c)) (next _);
}

no_surrogate : (c : ℕ) → IsScalar c → (is_high_surrogate c || is_low_surrogate c) ≡ false
no_surrogate c h = grind (arith, nat_tests, h)

past : (c : ℕ) → IsScalar c → nat_lt c 65536 ≡ false → IsPair c
past c h e = pair c (ltb-false c 65536 e) (grind (arith, nat_tests, h))

-- a code point by its units
pub unicode-reads : (c : ℕ) → IsScalar c → ReadsAs c (unicode_escape c)
unfolding high low
unicode-reads c h = cond_both (nat_lt c 65536) (c ∷ []) (high c ∷ low c ∷ []) (λ us. ReadsAs c (flat_map unit_escape us))
    (λ e. unit-reads c (ltb-true c 65536 e) (no_surrogate c h)) (λ e. pair-reads c (past c h e))

-- an escape of one byte after the backslash
short-reads : (c x : ℕ) → (x == 117) ≡ false → escapes_read.escaped_byte x ≡ Some c → is_control x ≡ false → ReadsAs c (92 ∷ x ∷ [])
short-reads c x h e g = record {
  inside = λ more. ap (λ (b : Bool). not (b || false) && stays false more) g;
  reads = λ more whole next place.
      let go : ℕ → Result (List ℕ) JsonFault = λ k. text_after k (place + 1) (x ∷ more) in
      ap (λ (r : Result Part JsonFault). after_part r (92 ∷ x ∷ more) go) (cond-false _ _ _ h ∙ ap (escapes_read.short_escape place) e)
      ∙ ap (followed_by (encode_utf8 c)) (next _);
}

-- a code point that stands for itself
plain-reads : (c : ℕ) → 32 ≤ c → c < 127 → (c == 34) ≡ false → (c == 92) ≡ false → ReadsAs c (c ∷ [])
plain-reads c h l e f = record {
  inside = λ more. passes c more (ordinary c h e f);
  reads = λ more whole next place.
      ap (λ (r : Result Part JsonFault). after_part r (c ∷ more) (λ k. text_after k (place + 1) more)) (cond-false _ _ _ f ∙ character_ascii place c more (omega (arith, l)))
      ∙ ap (followed_by (c ∷ [])) (next (place + 1))
      ∙ ap (λ (l : List ℕ). Ok (l ++ whole)) (sym (encode_ascii c (omega (arith, l))));
}

plain-or-unicode : (c : ℕ) → IsScalar c → (c == 34) ≡ false → (c == 92) ≡ false → ReadsAs c (plain_or_unicode c)
plain-or-unicode c h e f = cond_both (nat_lt c 32 || nat_le 127 c) (unicode_escape c) (c ∷ []) (ReadsAs c)
    (λ k. unicode-reads c h) (λ k. plain-reads c (grind (arith, nat_tests, k)) (grind (arith, nat_tests, k)) e f)

at-byte : (c d : ℕ) (text : List ℕ) → ReadsAs d text → (c == d) ≡ true → ReadsAs c text
at-byte c d text r e = subst (λ (n : ℕ). ReadsAs n text) (sym (eqb-true c d e)) r

escaped-reads : (c : ℕ) → IsScalar c → ReadsAs c (escaped c)
escaped-reads c h =
    cond_both (c == 34) _ _ (ReadsAs c) (at-byte c 34 (codes "\\\"") (short-reads 34 34 refl refl refl)) (λ quote.
    cond_both (c == 92) _ _ (ReadsAs c) (at-byte c 92 (codes "\\\\") (short-reads 92 92 refl refl refl)) (λ backslash.
    cond_both (c == 8) _ _ (ReadsAs c) (at-byte c 8 (codes "\\b") (short-reads 8 98 refl refl refl)) (λ _.
    cond_both (c == 12) _ _ (ReadsAs c) (at-byte c 12 (codes "\\f") (short-reads 12 102 refl refl refl)) (λ _.
    cond_both (c == 10) _ _ (ReadsAs c) (at-byte c 10 (codes "\\n") (short-reads 10 110 refl refl refl)) (λ _.
    cond_both (c == 13) _ _ (ReadsAs c) (at-byte c 13 (codes "\\r") (short-reads 13 114 refl refl refl)) (λ _.
    cond_both (c == 9) _ _ (ReadsAs c) (at-byte c 9 (codes "\\t") (short-reads 9 116 refl refl refl)) (λ _.
    plain-or-unicode c h quote backslash)))))))

escapes-inside : (cs : List ℕ) → all_scalars cs ≡ true → stays false (escapes cs) ≡ true
escapes-inside [] h = refl
escapes-inside (c ∷ cs) h = let parts = and_parts _ (all_scalars cs) h in (escaped-reads c parts.0).inside (escapes cs) ∙ escapes-inside cs parts.1

escapes-read : (cs : List ℕ) → all_scalars cs ≡ true → (place : ℕ) → text_after 0 place (escapes cs) ≡ Ok (encode_utf8_all cs)
escapes-read [] h place = refl
escapes-read (c ∷ cs) h place = let parts = and_parts _ (all_scalars cs) h in (escaped-reads c parts.0).reads (escapes cs) (encode_utf8_all cs) (escapes-read cs parts.1) place

-- the printed text of a string, between its quotes
pub points-inside : (bytes : List ℕ) → IsUtf8 bytes → stays false (escapes (code_points bytes)) ≡ true
points-inside bytes u = ap (λ (cs : List ℕ). stays false (escapes cs)) (code_points-IsUtf8 bytes u) ∙ escapes-inside (chars bytes) (scalars-chars bytes u)

pub points-read : (bytes : List ℕ) (place : ℕ) → IsUtf8 bytes → text_of place (escapes (code_points bytes)) ≡ Ok bytes
unfolding text_of
points-read bytes place u =
    ap (λ (cs : List ℕ). text_after 0 (place + 1) (escapes cs)) (code_points-IsUtf8 bytes u)
    ∙ escapes-read (chars bytes) (scalars-chars bytes u) (place + 1)
    ∙ ap (λ (l : List ℕ). Ok l) (encodes-chars bytes u)
