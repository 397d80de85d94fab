-- A tree over the places of a list, in which each place tells the best of its own item and of what
-- stands below it. Below the place k stand the places 2k+1 and 2k+2. This serves private functions.
use Rattle.std.specs.Prelude.{◌≡◌, ◌≢◌, ℕ, ◌+◌, ◌*◌, List, length, Option, Some, None, slice_index_or}
use Rattle.qm_queue.specs.{Turns.earlier_of, declared.turns.TurnItem.TurnItem}

-- what stands at a place, and none past the end
abbrev pub item_at : List (Option TurnItem) → ℕ → Option TurnItem
item_at items k = slice_index_or items k None

-- the best of a place's own item and of the two below it
abbrev pub best_below : List (Option TurnItem) → List (Option TurnItem) → ℕ → Option TurnItem
best_below owns bests k =
    earlier_of (item_at owns k) (earlier_of (item_at bests (2 * k + 1)) (item_at bests (2 * k + 2)))

-- each place tells its best
pub record IsTree (owns bests : List (Option TurnItem)) : Type 0 where
  pub same : length bests ≡ length owns
  pub each : (k : ℕ) → item_at bests k ≡ best_below owns bests k

-- each place but one does
pub record IsTreeBut (place : ℕ) (owns bests : List (Option TurnItem)) : Type 0 where
  pub same : length bests ≡ length owns
  pub each : (k : ℕ) → k ≢ place → item_at bests k ≡ best_below owns bests k

-- an item's session is that of its place, counted from 1
pub record IsNumbered (owns : List (Option TurnItem)) : Type 0 where
  pub each : (k : ℕ) (a : TurnItem) → item_at owns k ≡ Some a → a.session ≡ k + 1
