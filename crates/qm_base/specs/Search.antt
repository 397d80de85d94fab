-- Pieces of a list, found from the front by looking at the whole list (this project's own rule).
-- Each piece says how many items it takes.
use Rattle.std.specs.Prelude.{◌≡◌, ℕ, ◌+◌, ◌≤◌, zero, suc, List, [], ◌∷◌, ◌++◌}

-- what stands at the front: answers and how many items it takes after the first, or answers and what the list ends with
pub data Front (A R : Type 0) : Type 0 where
  Piece : List A → ℕ → Front A R
  Final : List A → R → Front A R

pub record Found (A R : Type 0) : Type 0 where
  pub answers : List A
  pub rest : R

abbrev pub after_front : {A R : Type 0} → Front A R → (ℕ → Found A R) → Found A R
after_front (Piece fs k) go = record { answers = fs ++ (go k).answers; rest = (go k).rest }
after_front (Final fs rest) go = record { answers = fs; rest = rest }

-- what a list holds once the first so many items are passed over; none is what nothing leaves
abbrev pub found_after : {X A R : Type 0} → (X → List X → Front A R) → R → ℕ → List X → Found A R
found_after front none k [] = record { answers = []; rest = none }
found_after front none (suc k) (x ∷ xs) = found_after front none k xs
found_after front none zero (x ∷ xs) = after_front (front x xs) (λ k. found_after front none k xs)

abbrev pub joined : {X A R : Type 0} → (R → X → Found A R) → Found A R → X → Found A R
joined step f x = record { answers = f.answers ++ (step f.rest x).answers; rest = (step f.rest x).rest }

-- what one item after those found adds: g is what f becomes with x after the n items that f was found in
abbrev pub Grows : {X A R : Type 0} → (R → X → Found A R) → R → ℕ → X → Front A R → Front A R → Type 0
Grows step none n x (Piece fs k) g = (g ≡ Piece fs k) × (k ≤ n)
Grows {X} {A} {R} step none n x (Final fs r) g =
    (go : ℕ → Found A R) → go n ≡ step none x → go (n + 1) ≡ record { answers = []; rest = none } →
    after_front g go ≡ joined step (record { answers = fs; rest = r }) x
