-- Texts that grow as long as there is memory (serves private functions).
use Rattle.std.specs.Prelude.{◌≡◌, ℕ, Bool, true, false, List}
use Rattle.qm_base.specs.Prefixes.{IsPrefix}

-- what a growing text has of the bytes given to it: all, or after a refusal those before it
abbrev pub Keeps : Bool → List ℕ → List ℕ → Type 0
Keeps false text given = text ≡ given
Keeps true text given = IsPrefix text given
