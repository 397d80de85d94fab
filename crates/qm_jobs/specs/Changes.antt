-- The changes of jobs (this project's own rule).
use Rattle.std.specs.Prelude.{ℕ, not, cond, ◌||◌, List, [], map}
use Rattle.qm_jobs.specs.{States.is_running, States.has_more, States.end_of, Ways.passed, declared.changes.Change.Change}
use Rattle.qm_jobs.specs.declared.{state.JobState.JobState, status.Status.Status}

-- a job passed these statuses
abbrev pub changes_of : List ℕ → List Status → List Change
changes_of id statuses = map (λ status. record { id = id; status = status }) statuses

-- the changes of one unit, which only the last unit of a running job has
abbrev pub unit_changes : List ℕ → JobState → List Change
unit_changes id state =
    cond (not (is_running state) || has_more state) [] (changes_of id (passed state.manual (end_of state)))
