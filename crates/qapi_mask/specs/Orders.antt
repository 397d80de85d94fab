-- Numbers in the order in which they first stand somewhere.
use Rattle.std.specs.Prelude.{ℕ, zero, suc, cond, List, [], ◌∷◌, ◌++◌, ◌≡◌, ◌<◌, true}
use Rattle.std.specs.List.{flat_map}
use Rattle.qapi_types.specs.Chains.{has}

-- the list with one number more, at its end, unless it is there
abbrev pub with_new : List ℕ → ℕ → List ℕ
with_new seen x = cond (has x seen) seen (seen ++ x ∷ [])

-- the list with those of others that are new
abbrev pub with_all : List ℕ → List ℕ → List ℕ
with_all seen [] = seen
with_all seen (x ∷ xs) = with_all (with_new seen x) xs

-- what one more reading finds: what is referred to first, and then by what was found
abbrev pub read_on : List ℕ → (ℕ → List ℕ) → List ℕ → List ℕ
read_on first refs found = with_all [] (first ++ flat_map refs found)

-- so many readings
abbrev pub readings : List ℕ → (ℕ → List ℕ) → ℕ → List ℕ
readings first refs zero = []
readings first refs (suc k) = read_on first refs (readings first refs k)

-- The rest serves private functions and laws.

-- each of them is below the number
abbrev pub AreBelow : ℕ → List ℕ → Type 0
AreBelow n xs = (x : ℕ) → has x xs ≡ true → x < n

-- what was found has the first ones, and all that it refers to
pub record IsClosed (first : List ℕ) (refs : ℕ → List ℕ) (found : List ℕ) : Type 0 where
  pub firsts : (x : ℕ) → has x first ≡ true → has x found ≡ true
  pub next : (t x : ℕ) → has t found ≡ true → has x (refs t) ≡ true → has x found ≡ true

-- a walk along the list that it makes longer: the first of what it found were read, and the whole list goes on
pub record IsWalked (first : List ℕ) (refs : ℕ → List ℕ) (whole walked list : List ℕ) : Type 0 where
  pub found : list ≡ read_on first refs walked
  pub rest : List ℕ
  pub ahead : whole ≡ list ++ rest
  pub after : List ℕ
  pub places : list ≡ walked ++ after

-- such a walk, entry by entry, finds the whole list
pub record Walks (first : List ℕ) (refs : ℕ → List ℕ) (whole : List ℕ) : Type 0 where
  pub begins : IsWalked first refs whole [] (with_all [] first)
  pub goes : (before : List ℕ) (t : ℕ) (after : List ℕ) → IsWalked first refs whole before (before ++ t ∷ after) →
      IsWalked first refs whole (before ++ t ∷ []) (with_all (before ++ t ∷ after) (refs t))
  pub ends : (found : List ℕ) → IsWalked first refs whole found found → found ≡ whole
