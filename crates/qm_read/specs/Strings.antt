-- Strings: where they end, and what their bytes stand for (RFC 8259, section 7; single quotes and
-- the escape `\'` are this project's own rule).
use Rattle.std.specs.Prelude.{ℕ, ◌+◌, ◌==◌, nat_lt, Bool, not, cond, ◌&&◌, ◌||◌, List, [], ◌∷◌, ◌++◌, take, length, Result, Ok, Err, encode_utf8}
use Rattle.std.specs.Str.{continuation_len, is_utf8}
use Rattle.qm_read.specs.declared.{fault.JsonFault.JsonFault, fault.JsonFault.TheVariants.BadUtf8, strings.Part.Part}
use Rattle.qm_read.specs.{declared.strings.Part.TheVariants.Same, declared.strings.Part.TheVariants.Char, Escapes.escape, Walks.walk}

-- a control character, which stands in no string
abbrev pub is_control : ℕ → Bool
is_control x = nat_lt x 32

-- a backslash takes the next byte, unless a backslash took it
abbrev pub takes_next : Bool → ℕ → Bool
takes_next taken x = not taken && x == 92

-- a byte ends a string of this quote: a control character, or the quote unless a backslash took it
abbrev pub ends_string : ℕ → Bool → ℕ → Bool
ends_string quote taken x = is_control x || (not taken && x == quote)

-- how many bytes of a string stand before the one that ends it; all, if none does
abbrev pub string_length : ℕ → Bool → List ℕ → ℕ
string_length quote taken [] = 0
string_length quote taken (x ∷ rest) = cond (ends_string quote taken x) 0 (1 + string_length quote (takes_next taken x) rest)

-- the character that begins with x: as many bytes as x announces, which have to be UTF-8
abbrev pub character : ℕ → ℕ → List ℕ → Result Part JsonFault
character place x rest =
    let more = take (continuation_len x) rest in
    cond (is_utf8 (x ∷ more)) (Ok (Same (length more))) (Err (BadUtf8 place))

-- the part that begins with x
abbrev pub part : ℕ → ℕ → List ℕ → Result Part JsonFault
part place x rest = cond (x == 92) (escape place rest) (character place x rest)

-- what a part at the front of these bytes stands for
abbrev pub text_in : Part → List ℕ → List ℕ
text_in (Same more) bytes = take (more + 1) bytes
text_in (Char c more) bytes = encode_utf8 c

-- how many bytes a part has after the first
abbrev pub more_in : Part → ℕ
more_in (Same more) = more
more_in (Char c more) = more

abbrev pub followed_by : List ℕ → Result (List ℕ) JsonFault → Result (List ℕ) JsonFault
followed_by text (Ok more) = Ok (text ++ more)
followed_by text (Err fault) = Err fault

abbrev pub after_part : Result Part JsonFault → List ℕ → (ℕ → Result (List ℕ) JsonFault) → Result (List ℕ) JsonFault
after_part (Ok p) bytes go = followed_by (text_in p bytes) (go (more_in p))
after_part (Err fault) bytes go = Err fault

abbrev pub text_here : ℕ → ℕ → List ℕ → (ℕ → Result (List ℕ) JsonFault) → Result (List ℕ) JsonFault
text_here place x rest later = after_part (part place x rest) (x ∷ rest) later

-- what bytes from a place on stand for once the first so many are passed over, or their first fault
abbrev pub text_after : ℕ → ℕ → List ℕ → Result (List ℕ) JsonFault
text_after k place bytes = walk text_here (Ok []) k place bytes

-- what the bytes of a string whose quote stands at a place stand for, or their first fault
unfoldable pub text_of : ℕ → List ℕ → Result (List ℕ) JsonFault
text_of place raw = text_after 0 (place + 1) raw
