-- Bytes, inputs and the end of a session: a turn of the player, by why the session takes nothing.
use Rattle.std.proofs.Common.{◌≡◌, ◌<◌, ◌-◌, ℕ, Bool, List, [], ◌++◌, length, map, get_or, slice_get, unwrap_or, option_map, Option, Some, None, refl, ap, sym, ◌∙◌, subst}
use Rattle.std.specs.{Bool.if◌then◌else◌, Option.option_or}
use Rattle.std.proofs.Math.ListN.{set}
use Rattle.std.proofs.lemmas.List.{map-set}
use Rattle.std.proofs.lemmas.Option.{slice_get-map, slice_get-get_or}
use Rattle.qm_core.specs.{Legal.past_of, Next.View, Next.closed_refusal, Next.refusal_of, Next.session_refusal, Standing.admitted_of, Standing.is_dropped, Standing.named_of, Standing.open_out_of_band_of, Standing.was_opened}
use Rattle.qm_core.specs.Next as step
use Rattle.qm_core.specs.declared.{entries.Cause.Cause, entries.StepFault.StepFault, inputs.Input.Input, requests.RequestName.RequestName}
use Rattle.qm_core.specs.declared.entries.StepFault.TheVariants.{NoSession, Closed}
use Rattle.qm_script.specs.{Endings.stop_of, Fed.fed_inputs_of, Kept.playing, Kept.fed_of, Kept.Turns, Kept.StepTurns, Kept.FedTurns, Kept.AdmitTurns, Kept.DropTurns, Kept.OobTurns, Kept.TakesMore, Kept.closed_stop, Kept.next_input_of, Players.Playing}
use Rattle.qm_script.specs.Playing.{Played, admit_step, fed_step, fed_to, input_step, oob_step, opened_step, stepped}
use Rattle.qm_script.specs.declared.endings.StepWord.TheVariants as word
use Rattle.qm_script.specs.declared.{endings.Stop.Stop, endings.Stop.TheVariants.Step}

-- why a session takes nothing, by its tests
abbrev stop_by : Bool → Bool → Option Stop
stop_by known dropped = option_map stop_of (option_or (if known then (if dropped then Some Closed else None) else Some NoSession) None)

-- from a player that looks so
pub tested_stop : (self : Playing) (m : View) (feeders : List (Option (List ℕ))) (s : ℕ) (known dropped : Bool) → playing m feeders ≡ self →
    was_opened s (past_of m.journal) ≡ known → is_dropped s (past_of m.journal) ≡ dropped →
    option_map stop_of (option_or (if known then (if dropped then Some Closed else None) else Some NoSession) None) ≡ closed_stop self s
unfolding closed_stop
tested_stop self m feeders s known dropped seen opened closed =
    ap (λ (b : Bool). stop_by b dropped) (sym opened) ∙ ap (λ (b : Bool). stop_by (was_opened s (past_of m.journal)) b) (sym closed)
    ∙ ap (λ (p : Playing). option_map stop_of (session_refusal s (past_of p.played.journal) None)) seen

no_stop : (found : Option StepFault) → option_map stop_of found ≡ None → found ≡ None
no_stop None none = refl
no_stop (Some fault) none = cc

-- a session that takes nothing is refused first of all
refused_first : (found others : Option StepFault) (stop : Stop) → option_map stop_of (option_or found None) ≡ Some stop → option_map stop_of (option_or found others) ≡ Some stop
refused_first None others stop h = absurd cc
refused_first (Some fault) others stop h = h

refused_step : (old : Playing) (played : Played) (fault : Option StepFault) (e : _) (stop : Stop) → option_map stop_of fault ≡ Some stop → Turns old (stepped played fault e) (Some stop) old
refused_step old played None e stop h = absurd cc
refused_step old played (Some fault) e stop h = (sym h, refl)

-- bytes for a session that takes nothing are refused
fed_refused_by : (old : Playing) (s : ℕ) (bytes : List ℕ) (found : Option StepFault) (stop : Stop) → option_map stop_of found ≡ Some stop → Turns old (fed_step old.played s bytes found) (Some stop) old
fed_refused_by old s bytes None stop h = absurd cc
fed_refused_by old s bytes (Some fault) stop h = (sym h, refl)

pub fed_refused : (self : Playing) (s : ℕ) (bytes : List ℕ) (stop : Stop) → Some stop ≡ closed_stop self s → FedTurns self s bytes (Some stop) self
unfolding FedTurns closed_stop
fed_refused self s bytes stop is = fed_refused_by self s bytes (session_refusal s (past_of self.played.journal) None) stop (sym is)

-- the bytes of a session stand at its place
pub fed-at : (feeders : List (Option (List ℕ))) (s place : ℕ) (d : Option (List ℕ)) → place ≡ s - 1 → place < length feeders → fed_to s (map fed_of feeders) ≡ fed_of (get_or feeders place d)
fed-at feeders s place d at within =
    ap (λ (n : ℕ). unwrap_or (slice_get (map fed_of feeders) n) []) (sym at) ∙ ap (λ (o : Option (List ℕ)). unwrap_or o []) (slice_get-map fed_of feeders place)
    ∙ ap (λ (o : Option (Option (List ℕ))). unwrap_or (option_map fed_of o) []) (slice_get-get_or feeders place d within)

-- others are fed
pub fed_turns : (self : Playing) (m : View) (feeders : List (Option (List ℕ))) (s place : ℕ) (bytes more : List ℕ) (d : Option (List ℕ)) → playing m feeders ≡ self → TakesMore self s → place ≡ s - 1 →
    place < length feeders → more ≡ fed_of (get_or feeders place d) ++ bytes → FedTurns self s bytes None (playing m (set feeders place (Some more)))
unfolding FedTurns closed_stop
fed_turns self m feeders s place bytes more d seen takes at within is =
    let free : session_refusal s (past_of self.played.journal) None ≡ None = no_stop _ takes.going in
    let all : map fed_of (set feeders place (Some more)) ≡ set (map fed_of feeders) (s - 1) (fed_to s (map fed_of feeders) ++ bytes) =
    map-set fed_of feeders place (Some more) ∙ ap (λ (n : ℕ). set (map fed_of feeders) n more) at
    ∙ ap (λ (l : List ℕ). set (map fed_of feeders) (s - 1) l) (is ∙ ap (λ (l : List ℕ). l ++ bytes) (sym (fed-at feeders s place d at within))) in
    let turns : Turns (playing m feeders) (fed_step record { journal = m.journal; fed = map fed_of feeders } s bytes None) None (playing m (set feeders place (Some more))) = (refl, rw all refl) in
    subst (λ (f : Option StepFault). Turns self (fed_step self.played s bytes f) None (playing m (set feeders place (Some more)))) (sym free)
    (subst (λ (p : Playing). Turns p (fed_step p.played s bytes None) None (playing m (set feeders place (Some more)))) seen turns)

admit_refused_by : (old : Playing) (s : ℕ) (found : Option StepFault) (stop : Stop) → option_map stop_of found ≡ Some stop → Turns old (admit_step old.world old.limits old.played s found) (Some stop) old
admit_refused_by old s None stop h = absurd cc
admit_refused_by old s (Some fault) stop h = (sym h, refl)

-- no input is taken for a session that takes nothing
pub admit_refused : (self : Playing) (s : ℕ) (stop : Stop) → Some stop ≡ closed_stop self s → AdmitTurns self s (Some stop) self
unfolding AdmitTurns closed_stop
admit_refused self s stop is = admit_refused_by self s (session_refusal s (past_of self.played.journal) None) stop (sym is)

-- the next input of another, or that there is none
next_admits : (self new : Playing) (s : ℕ) (found : Option StepFault) (input : Option Input) (stop : Option Stop) → found ≡ None →
    input ≡ slice_get (fed_inputs_of (fed_to s self.played.fed)) (admitted_of s (past_of self.played.journal)) →
    Turns self (input_step self.world self.limits self.played s input) stop new → Turns self (admit_step self.world self.limits self.played s found) stop new
next_admits self new s found input stop none is turns =
    subst (λ (f : Option StepFault). Turns self (admit_step self.world self.limits self.played s f) stop new) (sym none)
    (subst (λ (i : Option Input). Turns self (input_step self.world self.limits self.played s i) stop new) is turns)

pub admit_none : (self : Playing) (s : ℕ) (input : Option Input) → TakesMore self s → input ≡ next_input_of self s → input ≡ None → AdmitTurns self s (Some (Step word.NoFrame)) self
unfolding AdmitTurns closed_stop next_input_of
admit_none self s input takes is missing =
    next_admits self self s (session_refusal s (past_of self.played.journal) None) None (Some (Step word.NoFrame)) (no_stop _ takes.going) (sym missing ∙ is) (refl, refl)

pub admit_some : (self new : Playing) (s : ℕ) (input : Option Input) (first : Input) (stop : Option Stop) → TakesMore self s → input ≡ next_input_of self s → input ≡ Some first →
    StepTurns self (step.Admit s first) stop new → AdmitTurns self s stop new
unfolding AdmitTurns StepTurns closed_stop next_input_of
admit_some self new s input first stop takes is there turns =
    next_admits self new s (session_refusal s (past_of self.played.journal) None) (Some first) stop (no_stop _ takes.going) (sym there ∙ is) turns

-- the next input is that of the bytes that were fed
pub next_of_fed : (self : Playing) (m : View) (feeders : List (Option (List ℕ))) (s place admitted : ℕ) (d : Option (List ℕ)) → playing m feeders ≡ self → place ≡ s - 1 → place < length feeders →
    admitted ≡ admitted_of s (past_of m.journal) → slice_get (fed_inputs_of (fed_of (get_or feeders place d))) admitted ≡ next_input_of self s
unfolding next_input_of
next_of_fed self m feeders s place admitted d seen at within is =
    ap (λ (n : ℕ). slice_get (fed_inputs_of (fed_of (get_or feeders place d))) n) is
    ∙ ap (λ (l : List ℕ). slice_get (fed_inputs_of l) (admitted_of s (past_of m.journal))) (sym (fed-at feeders s place d at within))
    ∙ ap (λ (p : Playing). slice_get (fed_inputs_of (fed_to s p.played.fed)) (admitted_of s (past_of p.played.journal))) seen

-- a session that takes nothing is not dropped
pub drop_refused : (self : Playing) (s : ℕ) (cause : Cause) (stop : Stop) → Some stop ≡ closed_stop self s → DropTurns self s cause (Some stop) self
unfolding DropTurns closed_stop
drop_refused self s cause stop is =
    refused_step self _ (refusal_of self.world self.limits (past_of self.played.journal) (step.Drop s cause)) _ stop
    (refused_first (closed_refusal s (past_of self.played.journal)) _ stop (sym is))

oob_refused_by : (old : Playing) (s moment : ℕ) (found : Option StepFault) (stop : Stop) → option_map stop_of found ≡ Some stop → Turns old (oob_step old.world old.limits old.played s moment found) (Some stop) old
oob_refused_by old s moment None stop h = absurd cc
oob_refused_by old s moment (Some fault) stop h = (sym h, refl)

-- no request of a session that takes nothing is ended out of band
pub oob_refused : (self : Playing) (s moment : ℕ) (stop : Stop) → Some stop ≡ closed_stop self s → OobTurns self s moment (Some stop) self
unfolding OobTurns closed_stop
oob_refused self s moment stop is = oob_refused_by self s moment (session_refusal s (past_of self.played.journal) None) stop (sym is)

open_ends : (self new : Playing) (s moment : ℕ) (found : Option StepFault) (asked : Option RequestName) (stop : Option Stop) → found ≡ None → asked ≡ named_of (open_out_of_band_of s (past_of self.played.journal)) →
    Turns self (opened_step self.world self.limits self.played s moment asked) stop new → Turns self (oob_step self.world self.limits self.played s moment found) stop new
open_ends self new s moment found asked stop none is turns =
    subst (λ (f : Option StepFault). Turns self (oob_step self.world self.limits self.played s moment f) stop new) (sym none)
    (subst (λ (o : Option RequestName). Turns self (opened_step self.world self.limits self.played s moment o) stop new) is turns)

-- nor where none is open
pub oob_none : (self : Playing) (s moment : ℕ) (asked : Option RequestName) → TakesMore self s → asked ≡ named_of (open_out_of_band_of s (past_of self.played.journal)) → asked ≡ None →
    OobTurns self s moment (Some (Step word.NotOpen)) self
unfolding OobTurns closed_stop
oob_none self s moment asked takes is missing =
    open_ends self self s moment (session_refusal s (past_of self.played.journal) None) None (Some (Step word.NotOpen)) (no_stop _ takes.going) (sym missing ∙ is) (refl, refl)

pub oob_some : (self new : Playing) (s moment : ℕ) (asked : Option RequestName) (request : RequestName) (stop : Option Stop) → TakesMore self s →
    asked ≡ named_of (open_out_of_band_of s (past_of self.played.journal)) → asked ≡ Some request → StepTurns self (step.FinishOob s request.number moment) stop new → OobTurns self s moment stop new
unfolding OobTurns StepTurns closed_stop
oob_some self new s moment asked request stop takes is there turns =
    open_ends self new s moment (session_refusal s (past_of self.played.journal) None) (Some request) stop (no_stop _ takes.going) (sym there ∙ is) turns
