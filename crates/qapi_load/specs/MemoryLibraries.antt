-- A library in memory (this project's own rule).
use Rattle.std.specs.Prelude.{ℕ, List}
use Rattle.qapi_load.specs.Files.{NamedText}

-- what it holds, how many calls it had, how many of them failed, the name of the latest that
-- failed, and which are to fail
pub record Held : Type 0 where
  pub files : List NamedText
  pub calls : ℕ
  pub faults : ℕ
  pub failed_name : List ℕ
  pub failing : List ℕ
