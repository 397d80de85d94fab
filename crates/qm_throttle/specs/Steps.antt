-- A throttle and its calls: what one call does to the open windows (this project's own rule).
use Rattle.std.specs.Prelude.{◌≡◌, ◌≢◌, ℕ, ◌+◌, ◌==◌, nat_le, cond, List, [], ◌∷◌, ◌++◌, Option, Some, None}
use Rattle.std.specs.{BTreeMap.is_at, List.flat_map, Map.lookup, Map.set_value, Option.option_to_list, Ordering.match_ordering}
use Rattle.qm_plan.specs.declared.events.{Period.Period, Raised.Raised}
use Rattle.qm_throttle.specs.Keys.{key_order, key_of, period_of}
use Rattle.qm_throttle.specs.{Windows.Call, Windows.Raise, Windows.Tick, Windows.sent_of, Windows.windows_of, Keys.Key}
use Rattle.qm_throttle.specs.declared.{sent.Sent.Sent, window.Window.Window}

-- what a throttle shows: the periods, and the open windows in the order of their keys
pub record Throttling : Type 0 where
  pub periods : List Period
  pub windows : List (Key × Window)

-- the windows are those that are open after the calls
abbrev pub Follows : Throttling → List Call → Type 0
Follows shown calls = shown.windows ≡ windows_of shown.periods calls

-- one call: the events that it sends, and what the throttle follows after it
pub record Steps (old : Throttling) (call : Call) (events : List Sent) (new : Throttling) : Type 0 where
  pub periods : new.periods ≡ old.periods
  pub sent : (calls : List Call) → Follows old calls → events ≡ sent_of old.periods calls call
  pub follows : (calls : List Call) → Follows old calls → Follows new (calls ++ call ∷ [])

-- the window of a key, where it is open
abbrev pub window_at : Key → List (Key × Window) → Option Window
window_at key windows = lookup (is_at (key_order key)) windows

-- an event has a period, and a window of its key is open
abbrev pub IsHeld : Throttling → Raised → Type 0
IsHeld shown raised =
    let key = key_of shown.periods raised.event raised.payload in
    (period_of shown.periods key.name ≢ 0) × (window_at key shown.windows ≢ None)

-- the events that are sent, and the windows after them
pub record Stepped : Type 0 where
  pub sent : List Sent
  pub windows : List (Key × Window)

-- the window that an event opens
abbrev pub opened_by : ℕ → Sent → Window
opened_by period e = record { period = period; deadline = e.moment + period; kept = None }

-- a window with an event raised in it
abbrev pub keeping : Sent → Window → Window
keeping e w = record w { kept = Some e }

-- the windows with an event raised in that of its key, where it is open
abbrev pub kept_in : Key → Sent → List (Key × Window) → Option Window → List (Key × Window)
kept_in key e windows None = windows
kept_in key e windows (Some w) = set_value (is_at (key_order key)) windows (keeping e w)

abbrev pub kept_at : Key → Sent → List (Key × Window) → List (Key × Window)
kept_at key e windows = kept_in key e windows (window_at key windows)

-- an event that no window keeps
abbrev pub unkept : Sent → Option Window → Option Sent
unkept e None = Some e
unkept e (Some w) = None

-- with some windows before it
abbrev pub behind : List (Key × Window) → Stepped → Stepped
behind windows s = record { sent = s.sent; windows = windows ++ s.windows }

-- an event raised among windows in the order of their keys: kept in its window, or sent, and then it opens one
abbrev pub raised_among : ℕ → Key → Sent → List (Key × Window) → Stepped
raised_among period key e [] = record { sent = e ∷ []; windows = (key, opened_by period e) ∷ [] }
raised_among period key e (w ∷ ws) =
    match_ordering (key_order key w.0) (record { sent = e ∷ []; windows = (key, opened_by period e) ∷ w ∷ ws })
    (record { sent = []; windows = (w.0, keeping e w.1) ∷ ws }) (behind (w ∷ []) (raised_among period key e ws))

-- an event without a period is sent, and opens no window
abbrev pub raised_in : ℕ → Key → Sent → List (Key × Window) → Stepped
raised_in period key e windows = cond (period == 0) (record { sent = e ∷ []; windows = windows }) (raised_among period key e windows)

-- a window whose deadline came opens again where an event was kept in it
abbrev pub opens_again : ℕ → Key × Window → Option Sent → List (Key × Window)
opens_again m w None = []
opens_again m w (Some e) = (w.0, record { period = w.1.period; deadline = m + w.1.period; kept = None }) ∷ []

-- a window after a tick
abbrev pub ticked : ℕ → Key × Window → List (Key × Window)
ticked m w = cond (nat_le w.1.deadline m) (opens_again m w w.1.kept) (w ∷ [])

-- what a tick sends of a window
abbrev pub sent_at : ℕ → Key × Window → List Sent
sent_at m w = cond (nat_le w.1.deadline m) (option_to_list w.1.kept) []

-- one call on open windows
abbrev pub stepped : List Period → List (Key × Window) → Call → Stepped
stepped periods windows (Raise k e) = raised_in (period_of periods k.name) k e windows
stepped periods windows (Tick m) = record { sent = flat_map (sent_at m) windows; windows = flat_map (ticked m) windows }

-- one call, as it is told of the windows alone
pub record Does (old : Throttling) (call : Call) (events : List Sent) (new : Throttling) : Type 0 where
  pub periods : new.periods ≡ old.periods
  pub sent : events ≡ (stepped old.periods old.windows call).sent
  pub windows : new.windows ≡ (stepped old.periods old.windows call).windows
