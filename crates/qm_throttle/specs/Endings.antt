-- How one window ends among others (this project's own rule).
use Rattle.std.specs.Prelude.{ℕ, ◌+◌, List, [], Option, Some, None}
use Rattle.std.specs.{BTreeMap.is_at, Map.remove_entry, Map.set_value, Option.option_to_list}
use Rattle.qm_throttle.specs.{Keys.key_order, Steps.window_at, Keys.Key, declared.sent.Sent.Sent, declared.window.Window.Window}

-- a window that opens again at a moment
abbrev pub opened_again : ℕ → Window → Window
opened_again moment w = record { period = w.period; deadline = moment + w.period; kept = None }

-- the event that is kept in a window
abbrev pub kept_of : Option Window → List Sent
kept_of None = []
kept_of (Some w) = option_to_list w.kept

-- the windows after that of the key opened again, where it was open
abbrev pub opened_in : ℕ → Key → List (Key × Window) → Option Window → List (Key × Window)
opened_in moment key windows None = windows
opened_in moment key windows (Some w) = set_value (is_at (key_order key)) windows (opened_again moment w)

abbrev pub opened_at : ℕ → Key → List (Key × Window) → List (Key × Window)
opened_at moment key windows = opened_in moment key windows (window_at key windows)

-- the windows after that of the key ended, which opens again where an event was kept in it
abbrev pub after_end : ℕ → Key → List (Key × Window) → Window → Option Sent → List (Key × Window)
after_end moment key windows w None = remove_entry (is_at (key_order key)) windows
after_end moment key windows w (Some e) = set_value (is_at (key_order key)) windows (opened_again moment w)

abbrev pub ended_in : ℕ → Key → List (Key × Window) → Option Window → List (Key × Window)
ended_in moment key windows None = windows
ended_in moment key windows (Some w) = after_end moment key windows w w.kept

abbrev pub ended_at : ℕ → Key → List (Key × Window) → List (Key × Window)
ended_at moment key windows = ended_in moment key windows (window_at key windows)
