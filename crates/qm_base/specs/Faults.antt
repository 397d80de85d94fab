-- Counts of faults, and bytes that an object tells of itself (this project's own rule).
use Rattle.std.specs.Prelude.{◌≡◌, ℕ, ◌+◌, ◌-◌, ◌^◌, ◌≤◌, min, List, ◌++◌, Option, Result, Ok, Err}
use Rattle.std.specs.Option.{option_map}
use Rattle.qm_base.specs.Prefixes.{IsPrefix}

-- the count has risen, or stands at its end
abbrev pub Rose : ℕ → ℕ → Type 0
Rose before now = min (before + 1) (2 ^ 64 - 1) ≤ now

-- a failure comes exactly where the count rose
abbrev pub Counts : {T E : Type 0} → ℕ → ℕ → Result T E → Type 0
Counts before now (Ok x) = now ≡ before
Counts before now (Err e) = Rose before now

-- told bytes with more at their end
abbrev pub told_more : Option (List ℕ) → List ℕ → Option (List ℕ)
told_more told piece = option_map (λ bytes. bytes ++ piece) told

-- told bytes, and then a part of the piece
pub record HoldsPart (old : Option (List ℕ)) (piece : List ℕ) (new : Option (List ℕ)) : Type 0 where
  pub part : List ℕ
  pub within : IsPrefix part piece
  pub told : new ≡ told_more old part

-- the piece was appended, or after a failure a part of it
abbrev pub Puts : {T E : Type 0} → Option (List ℕ) → List ℕ → Result T E → Option (List ℕ) → Type 0
Puts old piece (Ok x) new = new ≡ told_more old piece
Puts old piece (Err e) new = HoldsPart old piece new
