-- The first of some items in the order of turns. This serves private functions.
use Rattle.std.specs.Prelude.{◌≡◌, ◌⊎◌, false, List, [], ◌∷◌, Option, Some, None}
use Rattle.qm_queue.specs.{Turns.precedes, declared.turns.TurnItem.TurnItem}

-- the item is one of the list
abbrev pub Among : TurnItem → List TurnItem → Type 0
Among b [] = ⊥
Among b (x ∷ xs) = (x ≡ b) ⊎ Among b xs

-- there is an item, and the other does not precede it
abbrev pub Leads : Option TurnItem → TurnItem → Type 0
Leads None b = ⊥
Leads (Some a) b = precedes b a ≡ false

-- the item is the first of the list, and there is none exactly where the list is empty
pub record IsFirst (xs : List TurnItem) (first : Option TurnItem) : Type 0 where
  pub leads : (b : TurnItem) → Among b xs → Leads first b
  pub among : (a : TurnItem) → first ≡ Some a → Among a xs
