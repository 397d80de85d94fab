-- Prefixes of lists, the empty list and the whole among them (this project's own rule).
use Rattle.std.specs.Prelude.{◌≡◌, ℕ, List, ◌++◌, Result, Ok, Err}
use Rattle.qm_base.specs.declared.text.NoMemory.{NoMemory}

-- the whole begins with the part
pub record IsPrefix {A : Type 0} (part whole : List A) : Type 0 where
  pub rest : List A
  pub is : whole ≡ part ++ rest

-- the text was appended; or, after want of memory, what is there begins what would be there
abbrev pub Writes : List ℕ → List ℕ → Result (Unit {0}) NoMemory → List ℕ → Type 0
Writes old text (Ok u) new = new ≡ old ++ text
Writes old text (Err e) new = IsPrefix new (old ++ text)
