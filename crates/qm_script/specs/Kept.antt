-- What a player keeps, and what a line and a script end with. This serves private functions.
use Rattle.std.specs.Prelude.{◌≡◌, ℕ, ◌-◌, ◌≤◌, ◌<◌, List, [], map, length, slice_get, unwrap_or, Option, Some, None, option_map, true, Result, Ok, Err}
use Rattle.qm_core.specs.{Legal.past_of, Next.View, Next.Step, Next.session_refusal, Standing.sessions_of, Standing.admitted_of, Standing.named_of, Standing.running_of, Standing.was_opened}
use Rattle.qm_core.specs.declared.{entries.Cause.Cause, entries.Entry.Entry, inputs.Input.Input}
use Rattle.qm_script.specs.{Endings.stop_of, Fed.fed_inputs_of, Players.Playing, Playing.Played, Playing.Ended}
use Rattle.qm_script.specs.Playing.{core_step, open_step, drop_step, fed_step, fed_to, admit_step, finish_step, oob_step, ordered, line_step}
use Rattle.qm_script.specs.declared.{endings.Refused.Refused, endings.Stop.Stop, orders.Order.Order, player.Player.TheInside.Inside as Fields}

-- the bytes that a feeder was fed; none without one
abbrev pub fed_of : Option (List ℕ) → List ℕ
fed_of feeder = unwrap_or feeder []

-- what is played on a monitor, with the bytes that were fed to its sessions
abbrev pub playing : View → List (Option (List ℕ)) → Playing
playing m feeders = record { world = m.world; limits = m.limits; played = record { journal = m.journal; fed = map fed_of feeders } }

abbrev pub shown : Fields → Playing
shown p = playing p.monitor p.feeders.items

-- each session that was opened has its place
pub record IsFedBy (journal : List Entry) (feeders : List (Option (List ℕ))) : Type 0 where
  pub count : length feeders ≡ length (sessions_of (past_of journal))

abbrev pub IsFed : Fields → Type 0
IsFed p = IsFedBy p.monitor.journal p.feeders.items

-- the line was played, or refused and left the player as it was
abbrev pub Turns : Playing → Result Played Stop → Option Stop → Playing → Type 0
Turns old (Ok next) stop new = (stop ≡ None) × (new ≡ record { world = old.world; limits = old.limits; played = next })
Turns old (Err why) stop new = (stop ≡ Some why) × (new ≡ old)

-- that, of a step of the monitor
unfoldable pub StepTurns : Playing → Step → Option Stop → Playing → Type 0
StepTurns old step stop new = Turns old (core_step old.world old.limits old.played step) stop new

-- of an `open`
unfoldable pub OpenTurns : Playing → Option Stop → Playing → Type 0
OpenTurns old stop new = Turns old (open_step old.world old.limits old.played) stop new

-- of a `drop`
unfoldable pub DropTurns : Playing → ℕ → Cause → Option Stop → Playing → Type 0
DropTurns old s cause stop new = Turns old (drop_step old.world old.limits old.played s cause) stop new

-- of bytes for a session
unfoldable pub FedTurns : Playing → ℕ → List ℕ → Option Stop → Playing → Type 0
FedTurns old s bytes stop new = Turns old (fed_step old.played s bytes (session_refusal s (past_of old.played.journal) None)) stop new

-- of the next input of a session
unfoldable pub AdmitTurns : Playing → ℕ → Option Stop → Playing → Type 0
AdmitTurns old s stop new = Turns old (admit_step old.world old.limits old.played s (session_refusal s (past_of old.played.journal) None)) stop new

-- of the end of the running request at a moment
unfoldable pub FinishTurns : Playing → ℕ → Option Stop → Playing → Type 0
FinishTurns old moment stop new = Turns old (finish_step old.world old.limits old.played moment (named_of (running_of (past_of old.played.journal)))) stop new

-- of the end of a request out of band
unfoldable pub OobTurns : Playing → ℕ → ℕ → Option Stop → Playing → Type 0
OobTurns old s moment stop new = Turns old (oob_step old.world old.limits old.played s moment (session_refusal s (past_of old.played.journal) None)) stop new

-- of an order, and of a line
unfoldable pub OrderTurns : Playing → List ℕ → Order → Option Stop → Playing → Type 0
OrderTurns old line order stop new = Turns old (ordered old.world old.limits old.played line (Some order)) stop new

unfoldable pub LineTurns : Playing → List ℕ → Option Stop → Playing → Type 0
LineTurns old line stop new = Turns old (line_step old.world old.limits old.played line) stop new

-- why a session takes nothing, where it was never opened or is closed
unfoldable pub closed_stop : Playing → ℕ → Option Stop
closed_stop old s = option_map stop_of (session_refusal s (past_of old.played.journal) None)

-- a session that takes more, whose bytes have a place
pub record TakesMore (p : Playing) (s : ℕ) : Type 0 where
  pub going : closed_stop p s ≡ None
  pub known : was_opened s (past_of p.played.journal) ≡ true
  pub low : 1 ≤ s
  pub within : s - 1 < length p.played.fed

-- the next input of a session
unfoldable pub next_input_of : Playing → ℕ → Option Input
next_input_of old s = slice_get (fed_inputs_of (fed_to s old.played.fed)) (admitted_of s (past_of old.played.journal))

-- the journal and the refused line are those of the script
pub record Finishes (ended : Ended) (player : Playing) (refused : Option Refused) : Type 0 where
  pub journal : player.played.journal ≡ ended.played.journal
  pub told : refused ≡ ended.refused
