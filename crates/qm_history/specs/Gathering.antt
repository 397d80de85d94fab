-- Text that is gathered before it is put (this project's own rule).
use Rattle.std.specs.Prelude.{◌≡◌, ℕ, List, ◌++◌, Option}
use Rattle.qm_base.specs.Faults.{told_more}

-- the front of a whole was put, and the rest of it is gathered
pub record Gathers (old now : Option (List ℕ)) (rest whole : List ℕ) : Type 0 where
  pub front : List ℕ
  pub told : now ≡ told_more old front
  pub is : whole ≡ front ++ rest
