-- Whose turn it is among the sessions that wait (this project's own rule).
use Rattle.std.specs.Prelude.{ℕ, nat_lt, Bool, true, false, not, cond, ◌&&◌, ◌||◌, List, find, flat_map, option_to_list, slice_set, ◌-◌, ◌<◌, ◌≤◌, length, Option, Some, None, option_map}
use Rattle.std.specs.List.{list_any}
use Rattle.qm_queue.specs.declared.turns.TurnItem.{TurnItem}

-- the one last start stands earlier than the other; a session that was never started comes before
-- all that were
abbrev pub starts_earlier : Option ℕ → Option ℕ → Bool
starts_earlier None None = false
starts_earlier None (Some n) = true
starts_earlier (Some m) None = false
starts_earlier (Some m) (Some n) = nat_lt m n

-- the one has its turn before the other: its last start stands earlier, or neither's does and its
-- number is lower
abbrev pub precedes : TurnItem → TurnItem → Bool
precedes a b =
    starts_earlier a.last_start b.last_start
    || (not (starts_earlier b.last_start a.last_start) && nat_lt a.session b.session)

-- the item that no other precedes
abbrev pub first_of : List TurnItem → Option TurnItem
first_of waiting = find (λ a. not (list_any (λ b. precedes b a) waiting)) waiting

-- the session that has the turn
abbrev pub turn_of : List TurnItem → Option ℕ
turn_of waiting = option_map (λ a. a.session) (first_of waiting)

-- the items of the sessions that wait, where each session has an item or none
abbrev pub waiting_in : List (Option TurnItem) → List TurnItem
waiting_in sessions = flat_map option_to_list sessions

-- the session is one of those, which are counted from 1
pub record IsOpened (session : ℕ) (sessions : List (Option TurnItem)) : Type 0 where
  pub counted : 0 < session
  pub opened : session ≤ length sessions

-- the items without that of a session, which are counted from 1
abbrev pub without : Option ℕ → List (Option TurnItem) → List (Option TurnItem)
without None sessions = sessions
without (Some session) sessions = slice_set sessions (session - 1) None

-- the item of two that has its turn before the other
abbrev pub earlier_of : Option TurnItem → Option TurnItem → Option TurnItem
earlier_of None other = other
earlier_of (Some a) None = Some a
earlier_of (Some a) (Some b) = cond (precedes b a) (Some b) (Some a)
