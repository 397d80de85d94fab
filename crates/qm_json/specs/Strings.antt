-- Strings as they are printed (RFC 8259, section 7; what is escaped beyond its needs, and what is
-- done with bytes that are not UTF-8, is this project's own rule).
use Rattle.std.specs.Prelude.{ℕ, ◌+◌, ◌/◌, ◌%◌, ◌==◌, ◌||◌, ◌&&◌, not, nat_lt, nat_le, Bool, cond, List, [], ◌∷◌, ◌++◌, chars, codes, flat_map}
use Rattle.std.specs.{Char.Escape.encode_utf16, Str.Lossy.utf8_lossy}

-- the code points of a string, with U+FFFD for each part that is not UTF-8
abbrev pub code_points : List ℕ → List ℕ
code_points bytes = chars (utf8_lossy bytes)

-- a hexadecimal digit, in upper case
abbrev pub hex_digit : ℕ → ℕ
hex_digit n = cond (nat_lt n 10) (n + 48) (n + 55)

-- a unit of UTF-16 as `\uXXXX`
abbrev pub unit_escape : ℕ → List ℕ
unit_escape u =
    codes "\\u"
    ++ hex_digit (u / 4096) ∷ hex_digit (u / 256 % 16) ∷ hex_digit (u / 16 % 16) ∷ hex_digit (u % 16) ∷ []

-- a code point by its units, which are two past 0xFFFF
abbrev pub unicode_escape : ℕ → List ℕ
unicode_escape c = flat_map unit_escape (encode_utf16 c)

-- a code point without a short escape: as it stands, or by its units below 32 and from 127 on
abbrev pub plain_or_unicode : ℕ → List ℕ
plain_or_unicode c = cond (nat_lt c 32 || nat_le 127 c) (unicode_escape c) (c ∷ [])

-- a code point as it stands in a string
abbrev pub escaped : ℕ → List ℕ
escaped c =
    cond (c == 34) (codes "\\\"")
    (cond (c == 92) (codes "\\\\")
    (cond (c == 8) (codes "\\b")
    (cond (c == 12) (codes "\\f")
    (cond (c == 10) (codes "\\n")
    (cond (c == 13) (codes "\\r")
    (cond (c == 9) (codes "\\t")
    (plain_or_unicode c)))))))

-- code points as they stand in a string
abbrev pub escapes : List ℕ → List ℕ
escapes cs = flat_map escaped cs

-- a string in its quotes
abbrev pub quoted : List ℕ → List ℕ
quoted bytes = codes "\"" ++ escapes (code_points bytes) ++ codes "\""

-- a code point that stands for itself
abbrev pub is_plain : ℕ → Bool
is_plain c = nat_le 32 c && nat_lt c 127 && not (c == 34) && not (c == 92)

-- a text, and U+FFFD after it where bytes that are not UTF-8 follow
abbrev pub chunk_escapes : List ℕ → Bool → List ℕ
chunk_escapes text faulty = escapes (chars text) ++ cond faulty (unicode_escape 0xFFFD) []
