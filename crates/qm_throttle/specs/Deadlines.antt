-- The deadlines of windows, in order (this project's own rule).
use Rattle.std.specs.Prelude.{◌≡◌, ℕ, ◌+◌, ◌==◌, ◌<◌, nat_le, Bool, true, false, ◌&&◌, List, [], ◌∷◌, Option, Some, None}
use Rattle.std.specs.{BTreeMap.is_at, Cmp.IsTotalOrder, Cmp.on_total, Cmp.then_total, Cmp.nat_cmp_total, List.list_any}
use Rattle.std.specs.{Ordering.nat_cmp, Ordering.ordering_then, declared.cmp.Ordering.Ordering}
use Rattle.qm_throttle.specs.{Keys.key_order, Keys.key_total, Steps.window_at, declared.due.Due.Due, Keys.Key, declared.sent.Sent.Sent}
use Rattle.qm_throttle.specs.declared.window.Window.{Window}

-- by deadline, then by event name, then by the printed key
abbrev pub due_order : Due → Due → Ordering
due_order a b = ordering_then (nat_cmp a.deadline b.deadline) (key_order a.key b.key)

-- that order is total
pub due_total : IsTotalOrder due_order
due_total = then_total (on_total (λ d. d.deadline) nat_cmp_total) (on_total (λ d. d.key) key_total)

-- the deadline is among these
abbrev pub has_due : List Due → Due → Bool
has_due dues due = list_any (is_at (due_order due)) dues

-- a window has this deadline
abbrev pub ends_at : ℕ → Option Window → Bool
ends_at deadline None = false
ends_at deadline (Some w) = w.deadline == deadline

-- the deadline is that of its key's window
abbrev pub is_due : List (Key × Window) → Due → Bool
is_due windows due = ends_at due.deadline (window_at due.key windows)

-- one of the deadlines is this one
abbrev pub is_listed : List Due → Due → Bool
is_listed dues due = list_any (λ d. is_at (due_order d) due) dues

-- a deadline is there, and the first comes at or before the moment
abbrev pub SomeCome : ℕ → List Due → Type 0
SomeCome moment [] = ⊥
SomeCome moment (due ∷ dues) = nat_le due.deadline moment ≡ true

-- a deadline of the key comes at or before the moment
abbrev pub key_comes : ℕ → List Due → Key → Bool
key_comes moment dues key = list_any (λ d. nat_le d.deadline moment && is_at (key_order d.key) key) dues

-- a window ends at the moment
abbrev pub has_come : ℕ → Option Window → Bool
has_come moment None = false
has_come moment (Some w) = nat_le w.deadline moment

-- the deadline of the window that opens where one with a kept event ends
abbrev pub next_due : ℕ → Key → ℕ → Option Sent → List Due
next_due moment key period None = []
next_due moment key period (Some e) = record { deadline = moment + period; key = key } ∷ []

-- the same of a key, whose window may be open
abbrev pub next_of : ℕ → Key → Option Window → List Due
next_of moment key None = []
next_of moment key (Some w) = next_due moment key w.period w.kept

abbrev pub next_at : ℕ → List (Key × Window) → Key → List Due
next_at moment windows key = next_of moment key (window_at key windows)

-- a window lasts
abbrev pub Lasts : Option Window → Type 0
Lasts None = Unit {0}
Lasts (Some w) = 0 < w.period

-- what is kept of windows beside them: their deadlines, and that each window lasts
pub record IsKept (deadlines : List Due) (windows : List (Key × Window)) : Type 0 where
  pub dues : (due : Due) → has_due deadlines due ≡ is_due windows due
  pub lasting : (key : Key) → Lasts (window_at key windows)
