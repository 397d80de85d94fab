-- Escapes in strings (RFC 8259, section 7; the escape `\'` is this project's own rule).
use Rattle.std.specs.Prelude.{ℕ, ◌+◌, ◌*◌, ◌==◌, nat_lt, Bool, cond, ◌&&◌, ◌||◌, List, [], ◌∷◌, drop, Option, Some, None, Result, Ok, Err}
use Rattle.std.specs.Char.{digit_value, Utf16.is_high_surrogate, Utf16.is_low_surrogate, Utf16.surrogate_pair_char}
use Rattle.qm_read.specs.declared.{fault.JsonFault.JsonFault, fault.JsonFault.TheVariants.BadEscape, strings.Part.Part, strings.Part.TheVariants.Char}

abbrev pub is_hex : ℕ → Bool
is_hex x = nat_lt (digit_value x) 16

-- the number of four hexadecimal digits at the front
abbrev pub hex_of : List ℕ → Option ℕ
hex_of (a ∷ b ∷ c ∷ d ∷ rest) =
    cond (is_hex a && is_hex b && is_hex c && is_hex d)
    (Some (((digit_value a * 16 + digit_value b) * 16 + digit_value c) * 16 + digit_value d)) None
hex_of _ = None

-- the number of an escape `\uXXXX` at the front
abbrev pub unicode_of : List ℕ → Option ℕ
unicode_of (x ∷ y ∷ rest) = cond (x == 92 && y == 117) (hex_of rest) None
unicode_of _ = None

-- a surrogate is half a character: a high one and a low one are a whole
abbrev pub pair_of : ℕ → ℕ → Option ℕ → Result Part JsonFault
pair_of place high None = Err (BadEscape place)
pair_of place high (Some low) =
    cond (is_high_surrogate high && is_low_surrogate low) (Ok (Char (surrogate_pair_char high low) 11)) (Err (BadEscape place))

-- an escape `\uXXXX` by its number, before further bytes
abbrev pub unicode_escape : ℕ → Option ℕ → List ℕ → Result Part JsonFault
unicode_escape place None rest = Err (BadEscape place)
unicode_escape place (Some c) rest =
    cond (is_high_surrogate c || is_low_surrogate c) (pair_of place c (unicode_of rest)) (Ok (Char c 5))

-- what a backslash and this byte stand for
abbrev pub escaped_byte : ℕ → Option ℕ
escaped_byte x =
    cond (x == 34 || x == 39 || x == 92 || x == 47) (Some x)
    (cond (x == 98) (Some 8)
    (cond (x == 102) (Some 12)
    (cond (x == 110) (Some 10)
    (cond (x == 114) (Some 13)
    (cond (x == 116) (Some 9)
    None)))))

abbrev pub short_escape : ℕ → Option ℕ → Result Part JsonFault
short_escape place None = Err (BadEscape place)
short_escape place (Some c) = Ok (Char c 1)

-- the escape whose backslash stands before these bytes
abbrev pub escape : ℕ → List ℕ → Result Part JsonFault
escape place [] = Err (BadEscape place)
escape place (x ∷ rest) = cond (x == 117) (unicode_escape place (hex_of rest) (drop 4 rest)) (short_escape place (escaped_byte x))
