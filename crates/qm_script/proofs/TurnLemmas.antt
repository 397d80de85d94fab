-- A line of a script, and those that follow it.
use Rattle.std.proofs.Common.{◌≡◌, ◌≤◌, ℕ, ◌+◌, ◌-◌, ◌^◌, min, List, [], ◌∷◌, length, arith, Option, Some, None, Result, Ok, Err, refl, ap, sym, ◌∙◌, subst}
use Rattle.qm_script.specs.{Kept.Turns, Kept.LineTurns, Lines.lines_of, Players.Playing}
use Rattle.qm_script.specs.{Playing.Played, Playing.Ended, Playing.after_line, Playing.line_step, Playing.played_from, Kept.Finishes}
use Rattle.qm_script.specs.declared.endings.Stop.{Stop}

refused : (n : ℕ) (old new : Playing) (step : Result Played Stop) (go : Played → Ended) (stop : Stop) → Turns old step (Some stop) new →
    Finishes (after_line n old.played step go) new (Some record { line = min n (2 ^ 32 - 1); stop = stop })
refused n old new (Ok next) go stop turns = absurd (let e : Some stop ≡ None = turns.0 in cc)
refused n old new (Err why) go stop turns =
    let is : stop ≡ why = (let same : Some stop ≡ Some why = turns.0 in cc) in
    record { journal = ap (λ (p : Playing). p.played.journal) turns.1; told = rw is refl }

played : (n : ℕ) (old new : Playing) (step : Result Played Stop) (go : Played → Ended) → Turns old step None new →
    (after_line n old.played step go ≡ go new.played) × (new.world ≡ old.world) × (new.limits ≡ old.limits)
played n old new (Ok next) go turns = (ap (λ (p : Playing). go p.played) (sym turns.1), ap (λ (p : Playing). p.world) turns.1, ap (λ (p : Playing). p.limits) turns.1)
played n old new (Err why) go turns = absurd (let e : None ≡ Some why = turns.0 in cc)

-- a script ends at a line that is refused
pub stop_finishes : (n : ℕ) (old new : Playing) (script line later : List ℕ) (answer : Option Stop) (stop : Stop) (whole : Ended) →
    lines_of script ≡ line ∷ lines_of later → played_from old.world old.limits n old.played (lines_of script) ≡ whole →
    LineTurns old line answer new → answer ≡ Some stop → Finishes whole new (Some record { line = min n (2 ^ 32 - 1); stop = stop })
unfolding LineTurns
stop_finishes n old new script line later answer stop whole lines from turns stopped =
    let first : played_from old.world old.limits n old.played (line ∷ lines_of later) ≡ whole = ap (λ (ls : List (List ℕ)). played_from old.world old.limits n old.played ls) (sym lines) ∙ from in
    let step = line_step old.world old.limits old.played line in
    subst (λ (w : Ended). Finishes w new (Some record { line = min n (2 ^ 32 - 1); stop = stop })) first
    (refused n old new step (λ next. played_from old.world old.limits (n + 1) next (lines_of later)) stop (subst (λ (a : Option Stop). Turns old step a new) stopped turns))

-- it goes on after a line that is played
pub line_goes_on : (n : ℕ) (old new : Playing) (script line later : List ℕ) (answer : Option Stop) (whole : Ended) →
    lines_of script ≡ line ∷ lines_of later → played_from old.world old.limits n old.played (lines_of script) ≡ whole →
    LineTurns old line answer new → answer ≡ None → played_from new.world new.limits (n + 1) new.played (lines_of later) ≡ whole
unfolding LineTurns
line_goes_on n old new script line later answer whole lines from turns went =
    let first : played_from old.world old.limits n old.played (line ∷ lines_of later) ≡ whole = ap (λ (ls : List (List ℕ)). played_from old.world old.limits n old.played ls) (sym lines) ∙ from in
    let step = line_step old.world old.limits old.played line in
    let next = played n old new step (λ next. played_from old.world old.limits (n + 1) next (lines_of later)) (subst (λ (a : Option Stop). Turns old step a new) went turns) in
    rw (next.1, next.2) (sym next.0 ∙ first)

-- it ends where no line is left
pub all_finishes : (n : ℕ) (old : Playing) (script : List ℕ) (whole : Ended) → length script ≤ 0 → played_from old.world old.limits n old.played (lines_of script) ≡ whole → Finishes whole old None
all_finishes n old [] whole none from = record { journal = ap (λ (w : Ended). w.played.journal) from; told = ap (λ (w : Ended). w.refused) from }
all_finishes n old (x ∷ script) whole none from = absurd (omega arith)
