-- The windows of throttled events, cut over a whole list of raises and ticks (this project's own rule).
use Rattle.std.specs.Prelude.{ℕ, zero, suc, ◌+◌, ◌==◌, nat_le, min, Bool, true, cond, List, [], ◌∷◌, ◌++◌, length, map, take, drop, filter, Option, Some, None}
use Rattle.std.specs.{List.flat_map, Option.option_map, Option.option_to_list}
use Rattle.qm_plan.specs.declared.events.{Period.Period, Raised.Raised}
use Rattle.qm_throttle.specs.{Keys.key_of, Keys.same_key, Keys.with_key, Keys.period_of, Keys.Key, declared.sent.Sent.Sent}
use Rattle.qm_throttle.specs.declared.window.Window.{Window}

-- what a throttle is told: an event of a key is raised, or a tick comes at a moment
pub data Call : Type 0 where
  Raise : Key → Sent → Call
  Tick : ℕ → Call

-- an event that is raised at a moment
abbrev pub event_of : Raised → ℕ → Sent
event_of raised moment = record { event = raised.event; payload = raised.payload; moment = moment }

abbrev pub raise_of : List Period → Raised → ℕ → Call
raise_of periods raised moment = Raise (key_of periods raised.event raised.payload) (event_of raised moment)

-- an open window: its deadline, and the event that is kept in it
pub record Open : Type 0 where
  pub deadline : ℕ
  pub kept : Option Sent

-- what a list of calls comes to: the events that are sent, and the window that is open after it
pub record Cut : Type 0 where
  pub sent : List Sent
  pub window : Option Open

-- where a window ends: how many calls come before its tick, and the tick's moment
pub record End : Type 0 where
  pub place : ℕ
  pub moment : ℕ

-- after one call more
abbrev pub one_later : Option End → Option End
one_later None = None
one_later (Some e) = Some (record e { place = e.place + 1 })

-- the first tick at or past a deadline
abbrev pub end_of : ℕ → List Call → Option End
end_of deadline [] = None
end_of deadline (Raise k e ∷ calls) = one_later (end_of deadline calls)
end_of deadline (Tick m ∷ calls) = cond (nat_le deadline m) (Some (record { place = 0; moment = m })) (one_later (end_of deadline calls))

-- the first, where it is there
abbrev pub option_or : {A : Type 0} → Option A → Option A → Option A
option_or (Some x) other = Some x
option_or None other = other

-- the last event that is raised
abbrev pub last_raised : List Call → Option Sent
last_raised [] = None
last_raised (Raise k e ∷ calls) = option_or (last_raised calls) (Some e)
last_raised (Tick m ∷ calls) = last_raised calls

-- the deadline of a window that opens at a moment; without a period none opens
abbrev pub opened : ℕ → ℕ → Option ℕ
opened period moment = cond (period == 0) None (Some (moment + period))

-- a window that nothing was raised in
abbrev pub fresh_window : ℕ → Open
fresh_window deadline = record { deadline = deadline; kept = None }

-- with some events sent before
abbrev pub after_sent : List Sent → Cut → Cut
after_sent events cut = record { sent = events ++ cut.sent; window = cut.window }

-- a window before these calls and what follows its end: the last event raised in it is sent at its end, and
-- then the next window opens there; without such an event none does
abbrev pub window_cut : ℕ → ℕ → List Call → Option End → (Option ℕ → ℕ → Cut) → Cut
window_cut period deadline calls None rest = record { sent = []; window = Some (record { deadline = deadline; kept = last_raised calls }) }
window_cut period deadline calls (Some end) rest =
    let kept = last_raised (take end.place calls) in
    after_sent (option_to_list kept) (rest (option_map (λ _. end.moment + period) kept) end.place)

-- the calls of one key, of which the first so many are passed over; a window with the deadline opened before
-- the others, or none. An event that is raised in no window is sent, and opens one
abbrev pub cut_from : ℕ → Option ℕ → ℕ → List Call → Cut
cut_from period deadline k [] = record { sent = []; window = option_map fresh_window deadline }
cut_from period deadline (suc k) (call ∷ calls) = cut_from period deadline k calls
cut_from period None zero (Raise key e ∷ calls) = after_sent (e ∷ []) (cut_from period (opened period e.moment) 0 calls)
cut_from period None zero (Tick m ∷ calls) = cut_from period None 0 calls
cut_from period (Some d) zero (call ∷ calls) =
    window_cut period d (call ∷ calls) (end_of d (call ∷ calls)) (λ next k. cut_from period next k calls)

-- a key has its own raises, and each tick
abbrev pub concerns : Key → Call → Bool
concerns key (Raise k e) = same_key key k
concerns key (Tick m) = true

-- what the calls come to for a key
unfoldable pub cut_of : List Period → Key → List Call → Cut
cut_of periods key calls = cut_from (period_of periods key.name) None 0 (filter (concerns key) calls)

-- keys with that of a raise
abbrev pub with_call : List Key → Call → List Key
with_call keys (Raise k e) = with_key k keys
with_call keys (Tick m) = keys

-- the keys that were raised, and others, in their order
abbrev pub keys_after : List Key → List Call → List Key
keys_after keys [] = keys
keys_after keys (call ∷ calls) = keys_after (with_call keys call) calls

-- the events that a call sends for a key: those that are sent with it, and were not before
abbrev pub sent_for : List Period → List Call → Call → Key → List Sent
sent_for periods calls call key = drop (length (cut_of periods key calls).sent) (cut_of periods key (calls ++ call ∷ [])).sent

-- the events that a call sends after some calls, in the order of their keys
unfoldable pub sent_of : List Period → List Call → Call → List Sent
sent_of periods calls call = flat_map (sent_for periods calls call) (keys_after [] (calls ++ call ∷ []))

-- the window of a key as it is kept
abbrev pub window_of : ℕ → Key → Option Open → List (Key × Window)
window_of period key None = []
window_of period key (Some w) = (key, record { period = period; deadline = w.deadline; kept = w.kept }) ∷ []

-- the open window of a key, where there is one
abbrev pub windows_for : List Period → List Call → Key → List (Key × Window)
windows_for periods calls key = window_of (period_of periods key.name) key (cut_of periods key calls).window

-- the windows that are open after the calls, in the order of their keys
unfoldable pub windows_of : List Period → List Call → List (Key × Window)
windows_of periods calls = flat_map (windows_for periods calls) (keys_after [] calls)

-- the lesser of a number and another, where there is one
abbrev pub lesser : ℕ → Option ℕ → ℕ
lesser n None = n
lesser n (Some m) = min n m

-- the least of some numbers
abbrev pub least : List ℕ → Option ℕ
least [] = None
least (n ∷ ns) = Some (lesser n (least ns))

-- the earliest deadline of windows
abbrev pub due_in : List (Key × Window) → Option ℕ
due_in windows = least (map (λ w. w.1.deadline) windows)

-- the earliest deadline after the calls
abbrev pub due_of : List Period → List Call → Option ℕ
due_of periods calls = due_in (windows_of periods calls)
