-- Spans of bytes of one kind at the front of a text (this project's own rule). This serves private functions.
use Rattle.std.specs.Prelude.{ℕ, ◌==◌, nat_lt, nat_le, Bool, not, ◌&&◌}
use Rattle.std.specs.Char.{is_ascii_digit}
use Rattle.qm_frame.specs.Bytes.{is_space, in_number, is_letter}
use Rattle.qm_read.specs.declared.spans.Span.{Span, TheVariants.Space, TheVariants.Digit, TheVariants.Number, TheVariants.Word, TheVariants.Plain}

-- a byte of a string that stands for itself, and neither ends it nor begins an escape
abbrev pub is_plain : ℕ → ℕ → Bool
is_plain quote x = nat_le 32 x && nat_lt x 128 && not (x == 92) && not (x == quote)

abbrev pub has : Span → ℕ → Bool
has Space x = is_space x
has Digit x = is_ascii_digit x
has Number x = in_number x
has Word x = is_letter x
has (Plain quote) x = is_plain quote x
