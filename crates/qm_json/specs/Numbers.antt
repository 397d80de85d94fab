-- Literals of numbers (RFC 8259, section 6), and which of them are kept as whole numbers (this
-- project's own rule).
use Rattle.std.specs.Prelude.{ℕ, ◌^◌, Bool, true, false, cond, ◌&&◌, ◌||◌, ◌==◌, nat_lt, List, [], ◌∷◌, length, take, drop, ℤ, pos, neg_ℤ, int_le, int_lt, Option, Some, None}
use Rattle.std.specs.{List.list_all, List.prefix_len, Char.is_ascii_digit, Str.Parse.signed_digits_value}

-- how many digits stand at the front
abbrev pub digits_len : List ℕ → ℕ
digits_len text = prefix_len is_ascii_digit text

-- digits alone, and at least one
abbrev pub is_digits : List ℕ → Bool
is_digits text = nat_lt 0 (length text) && list_all is_ascii_digit text

-- digits that do not begin with a zero, or one zero
abbrev pub is_whole_part : List ℕ → Bool
is_whole_part [] = false
is_whole_part (d ∷ digits) = is_digits (d ∷ digits) && (nat_lt 48 d || length digits == 0)

-- the text without a sign at its front
abbrev pub after_sign : List ℕ → List ℕ
after_sign [] = []
after_sign (x ∷ text) = cond (x == 43 || x == 45) text (x ∷ text)

-- nothing, or an exponent
abbrev pub is_exponent : List ℕ → Bool
is_exponent [] = true
is_exponent (x ∷ text) = (x == 101 || x == 69) && is_digits (after_sign text)

-- nothing, or a fraction, an exponent or both
abbrev pub is_fraction : List ℕ → Bool
is_fraction [] = true
is_fraction (x ∷ text) =
    cond (x == 46) (nat_lt 0 (digits_len text) && is_exponent (drop (digits_len text) text)) (is_exponent (x ∷ text))

-- the text without a minus at its front
abbrev pub after_minus : List ℕ → List ℕ
after_minus [] = []
after_minus (x ∷ text) = cond (x == 45) text (x ∷ text)

abbrev pub is_unsigned_literal : List ℕ → Bool
is_unsigned_literal text = is_whole_part (take (digits_len text) text) && is_fraction (drop (digits_len text) text)

-- the text is the literal of a number
abbrev pub is_literal : List ℕ → Bool
is_literal text = is_unsigned_literal (after_minus text)

-- the range of whole numbers
abbrev pub is_in_whole_range : ℤ → Bool
is_in_whole_range n = int_le (neg_ℤ (pos (2 ^ 63))) n && int_lt n (pos (2 ^ 64))

-- the text is a literal without fraction and exponent, and its value is in that range
abbrev pub is_whole_literal : List ℕ → Bool
is_whole_literal text = is_whole_part (after_minus text) && is_in_whole_range (signed_digits_value 10 text)

-- the whole number of a literal, where it is kept as one
abbrev pub whole_of : List ℕ → Option ℤ
whole_of text = cond (is_whole_literal text) (Some (signed_digits_value 10 text)) None
