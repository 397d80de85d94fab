-- Sorts of bytes in a JSON text (RFC 8259, sections 2, 6 and 7).
-- Strings may also stand in single quotes (this project's own rule).
use Rattle.std.specs.Prelude.{ℕ, ◌==◌, nat_lt, nat_le, Bool, not, ◌&&◌, ◌||◌}
pub use Rattle.qm_base.specs.Bytes.{is_space}

-- `{` and `[`
abbrev pub is_opener : ℕ → Bool
is_opener x = x == 123 || x == 91

-- `}` and `]`
abbrev pub is_closer : ℕ → Bool
is_closer x = x == 125 || x == 93

-- a byte that is a piece of a text by itself: white space, a bracket, `:` or `,`
abbrev pub is_single : ℕ → Bool
is_single x = is_space x || is_opener x || is_closer x || x == 58 || x == 44

-- `0` to `9`
abbrev pub is_digit : ℕ → Bool
is_digit x = nat_le 48 x && nat_le x 57

-- a digit or `-`
abbrev pub begins_number : ℕ → Bool
begins_number x = is_digit x || x == 45

-- a digit, `+`, `-`, `.`, `e` or `E`
abbrev pub in_number : ℕ → Bool
in_number x = is_digit x || x == 43 || x == 45 || x == 46 || x == 101 || x == 69

-- `a` to `z`
abbrev pub is_letter : ℕ → Bool
is_letter x = nat_le 97 x && nat_le x 122

-- the double and the single quote
abbrev pub is_quote : ℕ → Bool
is_quote x = x == 34 || x == 39

-- a byte that no string has: a control character, 0xFE or 0xFF
abbrev pub is_barred : ℕ → Bool
is_barred x = nat_lt x 32 || x == 254 || x == 255

-- a byte after which reading goes on: a control character other than tab, 0xFE or 0xFF
-- (QMP specification, "Forcing the JSON parser into known-good state")
abbrev pub is_reset : ℕ → Bool
is_reset x = is_barred x && not (x == 9)
