-- Literals of whole numbers: each is a literal, and a whole number's printed text is its literal.
use Rattle.std.proofs.Common.{◌≡◌, ℕ, ◌+◌, ◌%◌, ◌^◌, ◌<◌, ◌≤◌, zero, suc, true, false, ◌||◌, ◌==◌, Some, List, [], ◌∷◌, ◌++◌, length, get_or, take, take_all, ℤ, pos, negsuc, refl, ap, ◌∙◌, arith}
use Rattle.std.specs.Prelude.{nat_lt, neg_ℤ, int_le, int_lt}
use Rattle.std.specs.{List.list_all, Char.is_ascii_digit, Fmt.decimal, Fmt.signed_decimal}
use Rattle.std.specs.Str.Parse.{digits_value, signed_digits_value}
use Rattle.std.proofs.lemmas.{Bool.and_from, Bool.and_parts, List.drop_all, Bool.Decides.nat_tests, List.Folds.list_all-append}
use Rattle.std.proofs.lemmas.Fmt.{decimal_by_steps, decimal_nonempty, first_decimal, decimal_digit, decimal_is_IsNumeral}
use Rattle.qm_json.specs.Numbers.{is_digits, is_whole_part, is_literal, is_unsigned_literal, is_fraction, digits_len, after_minus, is_in_whole_range, is_whole_literal, whole_of}

digit_test : (d : ℕ) → d < 10 → is_ascii_digit (48 + d) ≡ true
digit_test d h = grind (arith, nat_tests)

one_digit : (d : ℕ) → d < 10 → list_all is_ascii_digit ((48 + d) ∷ []) ≡ true
one_digit d h = rw (digit_test d h) refl

more_digits : (n : ℕ) (ds : List ℕ) → 10 ≤ n → list_all is_ascii_digit ds ≡ true → list_all is_ascii_digit (ds ++ ((48 + n % 10) ∷ [])) ≡ true
more_digits n ds h all = let last : n % 10 < 10 = omega arith in list_all-append is_ascii_digit ds ((48 + n % 10) ∷ []) ∙ rw (all, one_digit (n % 10) last) refl

all_digits : (n : ℕ) → n < 2 ^ 64 → list_all is_ascii_digit (decimal n) ≡ true
all_digits n h = decimal_by_steps (λ _ ds. list_all is_ascii_digit ds ≡ true) one_digit more_digits n h

-- digits of which the first is no zero
whole_part : (ds : List ℕ) → 0 < length ds → list_all is_ascii_digit ds ≡ true → 48 < get_or ds 0 0 → is_whole_part ds ≡ true
whole_part [] h all first = absurd (omega (arith, h))
whole_part (d ∷ ds) h all first =
    let big : nat_lt 48 d ≡ true = grind (arith, nat_tests) in
    let some : nat_lt 0 (length (d ∷ ds)) ≡ true = grind (arith, nat_tests) in
    rw (some, all, big) refl

whole_decimal : (n : ℕ) → n < 2 ^ 64 → is_whole_part (decimal n) ≡ true
whole_decimal zero h = rw (decimal_digit 0 (omega arith)) refl
whole_decimal (suc n) h = whole_part (decimal (suc n)) (decimal_nonempty (suc n) h) (all_digits (suc n) h) (first_decimal (suc n) (omega arith) h)

-- digits have no sign
unsigned : (ds : List ℕ) → 0 < length ds → list_all is_ascii_digit ds ≡ true → (after_minus ds ≡ ds) × (signed_digits_value 10 ds ≡ pos (digits_value 10 ds))
unsigned [] h all = absurd (omega (arith, h))
unsigned (d ∷ ds) h all =
    let digit : is_ascii_digit d ≡ true = (and_parts (is_ascii_digit d) (list_all is_ascii_digit ds) all).0 in
    let no_minus : (d == 45) ≡ false = grind (arith, nat_tests) in
    let no_plus : (d == 43) ≡ false = grind (arith, nat_tests) in
    (rw no_minus refl, rw (no_minus, no_plus) refl)

-- the literal of a whole number in the range
record IsWhole (text : List ℕ) (n : ℤ) : Type 0 where
  literal : is_whole_literal text ≡ true
  value : signed_digits_value 10 text ≡ n

whole : (text : List ℕ) (n : ℤ) → is_whole_part (after_minus text) ≡ true → signed_digits_value 10 text ≡ n → is_in_whole_range n ≡ true → IsWhole text n
whole text n part value h = record { literal = and_from _ _ part (ap is_in_whole_range value ∙ h); value = value }

printed : (n : ℤ) → is_in_whole_range n ≡ true → IsWhole (signed_decimal n) n
printed (pos n) h =
    let below = (and_parts (int_le (neg_ℤ (pos (2 ^ 63))) (pos n)) (int_lt (pos n) (pos (2 ^ 64))) h).1 in
    let small : n < 2 ^ 64 = grind (arith, nat_tests) in
    let plain = unsigned (decimal n) (decimal_nonempty n small) (all_digits n small) in
    whole (decimal n) (pos n) (ap is_whole_part plain.0 ∙ whole_decimal n small) (plain.1 ∙ ap pos (decimal_is_IsNumeral n small).1) h
printed (negsuc n) h =
    let above = (and_parts (int_le (neg_ℤ (pos (2 ^ 63))) (negsuc n)) (int_lt (negsuc n) (pos (2 ^ 64))) h).0 in
    let small : suc n < 2 ^ 64 = grind (arith, nat_tests) in
    whole (45 ∷ decimal (suc n)) (negsuc n) (whole_decimal (suc n) small) (ap (λ k. neg_ℤ (pos k)) (decimal_is_IsNumeral (suc n) small).1) h

pub whole_of-printed : (n : ℤ) → is_in_whole_range n ≡ true → whole_of (signed_decimal n) ≡ Some n
whole_of-printed n h = let w = printed n h in rw (w.literal, w.value) refl

digits_alone : (ds : List ℕ) → list_all is_ascii_digit ds ≡ true → digits_len ds ≡ length ds
digits_alone [] all = refl
digits_alone (d ∷ ds) all =
    let parts = and_parts (is_ascii_digit d) (list_all is_ascii_digit ds) all in
    rw (parts.0, digits_alone ds parts.1) (omega arith)

whole_unsigned : (ds : List ℕ) → is_whole_part ds ≡ true → is_unsigned_literal ds ≡ true
whole_unsigned [] part = cc
whole_unsigned (d ∷ ds) part =
    let digits = and_parts (is_digits (d ∷ ds)) (nat_lt 48 d || length ds == 0) part in
    let alone : digits_len (d ∷ ds) ≡ length (d ∷ ds) = digits_alone (d ∷ ds) (and_parts (nat_lt 0 (length (d ∷ ds))) (list_all is_ascii_digit (d ∷ ds)) digits.0).1 in
    let all : length (d ∷ ds) ≤ digits_len (d ∷ ds) = omega arith in
    let front : is_whole_part (take (digits_len (d ∷ ds)) (d ∷ ds)) ≡ true = ap is_whole_part (take_all (digits_len (d ∷ ds)) (d ∷ ds) all) ∙ part in
    and_from _ _ front (ap is_fraction (drop_all (digits_len (d ∷ ds)) (d ∷ ds) all))

pub whole_is_literal : (text : List ℕ) → is_whole_literal text ≡ true → is_literal text ≡ true
whole_is_literal text h = whole_unsigned (after_minus text) (and_parts (is_whole_part (after_minus text)) (is_in_whole_range (signed_digits_value 10 text)) h).0

-- the printed text of a whole number is a literal
pub literal-printed : (n : ℤ) → is_in_whole_range n ≡ true → is_literal (signed_decimal n) ≡ true
literal-printed n h = whole_is_literal (signed_decimal n) (printed n h).literal
