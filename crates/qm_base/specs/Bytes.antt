-- Sorts of bytes that several formats share.
use Rattle.std.specs.Prelude.{ℕ, ◌==◌, Bool, ◌||◌}

-- space, tab, CR and LF (RFC 8259, section 2)
abbrev pub is_space : ℕ → Bool
is_space x = x == 32 || x == 9 || x == 13 || x == 10
