-- Literals of whole numbers, as `parse` reads them.
use Rattle.std.proofs.Common.{◌≡◌, ℕ, ◌<◌, Bool, true, false, cond, ◌||◌, ◌==◌, nat_lt, List, [], ◌∷◌, length, refl, subst, arith}
use Rattle.std.proofs.lemmas.{Int.ints, Bool.and_parts, Bool.false_from_ne_true, Bool.Decides.nat_tests, Fmt.IsAscii-from_digits, Str.IsUtf8-from_ascii, Str.Ascii.IsAscii-cons}
use Rattle.std.specs.{Char.digit_value, Char.is_ascii_digit, List.list_all, Int.w128, Str.IsUtf8, Str.IsAscii}
use Rattle.std.specs.Prelude.{ℤ, FitsSigned, drop}
use Rattle.std.specs.Str.Parse.{AllDigits, IsNumeral, without_leading_sign, signed_digits_value}
use Rattle.qm_json.specs.Numbers.{is_digits, is_whole_part, after_minus, is_in_whole_range}

digit : (c : ℕ) → is_ascii_digit c ≡ true → digit_value c < 10
digit c h = grind (arith, nat_tests, h)

all_digits : (ds : List ℕ) → list_all is_ascii_digit ds ≡ true → AllDigits 10 ds
all_digits [] h = tt
all_digits (c ∷ ds) h = let parts = and_parts (is_ascii_digit c) (list_all is_ascii_digit ds) h in (digit c parts.0, all_digits ds parts.1)

are-digits : (d : ℕ) (ds : List ℕ) → is_whole_part (d ∷ ds) ≡ true → list_all is_ascii_digit (d ∷ ds) ≡ true
are-digits d ds h = (and_parts (nat_lt 0 (length (d ∷ ds))) _ (and_parts (is_digits (d ∷ ds)) (nat_lt 48 d || length ds == 0) h).0).1

whole_part-digits : (ds : List ℕ) → is_whole_part ds ≡ true → IsNumeral 10 ds
whole_part-digits [] h = cc
whole_part-digits (d ∷ ds) h = (omega arith, all_digits (d ∷ ds) (are-digits d ds h))

no_plus : (x : ℕ) (text : List ℕ) → is_whole_part (x ∷ text) ≡ true → (x == 43) ≡ false
no_plus x text h = let d = and_parts (is_ascii_digit x) (list_all is_ascii_digit text) (are-digits x text h) in grind (arith, nat_tests, d.0)

unsigned : (x : ℕ) (text : List ℕ) (b : Bool) → is_whole_part (cond b text (x ∷ text)) ≡ true → IsNumeral 10 (cond b text (drop (cond (x == 43) 1 0) (x ∷ text)))
unsigned x text true h = whole_part-digits text h
unsigned x text false h = rw (no_plus x text h) (whole_part-digits (x ∷ text) h)

pub is_numeral : (text : List ℕ) → is_whole_part (after_minus text) ≡ true → IsNumeral 10 (without_leading_sign text)
is_numeral [] h = cc
is_numeral (x ∷ text) h = unsigned x text (x == 45) h

ascii : (x : ℕ) (text : List ℕ) (b : Bool) → (x == 45) ≡ b → is_whole_part (cond b text (x ∷ text)) ≡ true → IsAscii (x ∷ text)
ascii x text true e h = let d : x < 128 = grind (arith, nat_tests, e) in IsAscii-cons x text d (IsAscii-from_digits text (whole_part-digits text h).1)
ascii x text false e h = IsAscii-from_digits (x ∷ text) (whole_part-digits (x ∷ text) h).1

pub is_text : (text : List ℕ) → is_whole_part (after_minus text) ≡ true → IsUtf8 text
is_text [] h = cc
is_text (x ∷ text) h = IsUtf8-from_ascii (x ∷ text) (ascii x text (x == 45) refl h)

fits : (n : ℤ) → is_in_whole_range n ≡ true → FitsSigned w128 n
fits n h = grind (arith, ints, h)

pub out_of_range : (text bytes : List ℕ) → text ≡ bytes → is_whole_part (after_minus bytes) ≡ true → ¬ (IsNumeral 10 (without_leading_sign text) × FitsSigned w128 (signed_digits_value 10 text)) → is_in_whole_range (signed_digits_value 10 bytes) ≡ false
out_of_range text bytes e h unfit = subst (λ (t : List ℕ). is_in_whole_range (signed_digits_value 10 t) ≡ false) e (false_from_ne_true _ (λ t. unfit (is_numeral text (rw e h), fits _ t)))
