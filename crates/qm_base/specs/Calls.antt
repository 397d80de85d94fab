-- Calls of an object in memory by their numbers, and which of them are to fail (this project's own rule).
use Rattle.std.specs.Prelude.{ℕ, ◌+◌, ◌-◌, ◌^◌, ◌==◌, min, Bool, List}
use Rattle.std.specs.List.{list_any}

-- the number of the next call after so many, as far as 64 bits count
abbrev pub next_call : ℕ → ℕ
next_call calls = min (calls + 1) (2 ^ 64 - 1)

abbrev pub is_listed : ℕ → List ℕ → Bool
is_listed call calls = list_any (λ other. other == call) calls

-- the next call after so many is to fail
abbrev pub fails_next : ℕ → List ℕ → Bool
fails_next calls failing = is_listed (next_call calls) failing
