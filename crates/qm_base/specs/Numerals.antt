-- Decimal numbers without a sign or a leading zero (this project's own rule).
use Rattle.std.specs.Prelude.{ℕ, ◌^◌, ◌==◌, nat_lt, Bool, not, cond, ◌&&◌, List, length, slice_index, Option, Some, None}
use Rattle.std.specs.{List.list_all, Char.is_ascii_digit, Str.Parse.digits_value}

-- a zero stands before something else
abbrev pub has_leading_zero : List ℕ → Bool
has_leading_zero text = nat_lt 1 (length text) && (slice_index text 0 == 48)

-- digits alone, at least one, without a leading zero
abbrev pub is_numeral : List ℕ → Bool
is_numeral text = nat_lt 0 (length text) && not (has_leading_zero text) && list_all is_ascii_digit text

-- the number, where it is below 2^64
abbrev pub number_of : List ℕ → Option ℕ
number_of text = cond (is_numeral text && nat_lt (digits_value 10 text) (2 ^ 64)) (Some (digits_value 10 text)) None
