-- Walks over a list from the front, on which an item may take some of those after it with it (this
-- project's own rule).
use Rattle.std.specs.Prelude.{ℕ, ◌+◌, zero, suc, List, [], ◌∷◌}

-- what a walk comes to from a place on, once the first so many items are passed over: at an item that
-- is told by its place, the item, those after it, and what the walk comes to after the next so many
abbrev pub walk : {X A : Type 0} → (ℕ → X → List X → (ℕ → A) → A) → A → ℕ → ℕ → List X → A
walk here none k place [] = none
walk here none (suc k) place (x ∷ rest) = walk here none k (place + 1) rest
walk here none zero place (x ∷ rest) = here place x rest (λ k. walk here none k (place + 1) rest)
