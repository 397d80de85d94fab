-- A sink in memory (this project's own rule).
use Rattle.std.specs.Prelude.{ℕ, List}

-- what it holds, how many calls it had, how many of them failed, and which are to fail
pub record Sunk : Type 0 where
  pub taken : List ℕ
  pub calls : ℕ
  pub faults : ℕ
  pub failing : List ℕ
