-- Lines and columns of a text (this project's own rule: both are counted from 1, columns in bytes,
-- and both as far as 32 bits count).
use Rattle.std.specs.Prelude.{ℕ, ◌+◌, ◌-◌, ◌^◌, ◌==◌, min, cond, List, [], ◌∷◌}
use Rattle.qapi_lex.specs.declared.spot.Spot.{Spot}

abbrev pub next_number : ℕ → ℕ
next_number n = min (n + 1) (2 ^ 32 - 1)

-- the place of a text's first byte
abbrev pub beginning : Spot
beginning = record { line = 1; column = 1 }

-- the place after a byte: LF (10) ends the line
abbrev pub after_byte : Spot → ℕ → Spot
after_byte s x =
    cond (x == 10) (record { line = next_number s.line; column = 1 })
    (record { line = s.line; column = next_number s.column })

-- the place after these bytes, of which the first stands at a place
abbrev pub after_bytes : Spot → List ℕ → Spot
after_bytes s [] = s
after_bytes s (x ∷ rest) = after_bytes (after_byte s x) rest
