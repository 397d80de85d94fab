-- A line of items in the order of their turns, beside a tree with the other items. An item of the line may have
-- been taken from its session since. This serves private functions.
use Rattle.std.specs.Prelude.{◌≡◌, ◌⊎◌, ℕ, ◌-◌, false, ⊤, List, [], ◌∷◌, length, Option, Some, slice_get}
use Rattle.qm_queue.specs.{Firsts.Among, Trees.item_at, Turns.precedes, declared.turns.TurnItem.TurnItem}

-- none of the items precedes the one before it
abbrev pub IsOrdered : List TurnItem → Type 0
IsOrdered [] = ⊤
IsOrdered (x ∷ []) = ⊤
IsOrdered (x ∷ y ∷ xs) = (precedes y x ≡ false) × IsOrdered (y ∷ xs)

-- an item does not precede the last of these
abbrev pub MayFollow : List TurnItem → TurnItem → Type 0
MayFollow xs a = (last : TurnItem) → slice_get xs (length xs - 1) ≡ Some last → precedes a last ≡ false

-- each item stands in the tree or in the line, and each of the tree is an item
pub record IsParted (items tree : List (Option TurnItem)) (line : List TurnItem) : Type 0 where
  pub same : length tree ≡ length items
  pub each : (k : ℕ) (a : TurnItem) → item_at items k ≡ Some a → (item_at tree k ≡ Some a) ⊎ Among a line
  pub kept : (k : ℕ) (a : TurnItem) → item_at tree k ≡ Some a → item_at items k ≡ Some a

-- the first of the line is an item
abbrev pub IsLive : List (Option TurnItem) → List TurnItem → Type 0
IsLive items line = (a : TurnItem) → slice_get line 0 ≡ Some a → item_at items (a.session - 1) ≡ Some a
