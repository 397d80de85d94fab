-- Words of a line, with a blank between each two (this project's own rule).
use Rattle.std.specs.Prelude.{ℕ, ◌+◌, ◌^◌, ◌==◌, nat_lt, Bool, if◌then◌else◌, List, [], take, drop, position, Option, Some, None}
use Rattle.std.specs.Option.{option_and_then}
use Rattle.qm_base.specs.Numerals.{number_of}

abbrev pub is_blank : ℕ → Bool
is_blank x = x == 32

abbrev pub before_at : List ℕ → Option ℕ → List ℕ
before_at text None = text
before_at text (Some n) = take n text

abbrev pub after_at : List ℕ → Option ℕ → List ℕ
after_at text None = []
after_at text (Some n) = drop (n + 1) text

-- what stands before the first blank, or all without one; and what follows it, or nothing
abbrev pub before_blank : List ℕ → List ℕ
before_blank text = before_at text (position is_blank text)

abbrev pub after_blank : List ℕ → List ℕ
after_blank text = after_at text (position is_blank text)

abbrev pub below : ℕ → ℕ → Option ℕ
below most n = if nat_lt n most then Some n else None

-- a session number, of 32 bits
abbrev pub session_number : List ℕ → Option ℕ
session_number text = option_and_then (below (2 ^ 32)) (number_of text)
