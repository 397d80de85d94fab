-- The job table: starting a job, its verbs, and the units of a tick (this project's own rule). The jobs stand
-- in the order of starting.
use Rattle.std.specs.Prelude.{◌≡◌, ◌≢◌, ℕ, nat_le, Bool, cond, List, [], ◌∷◌, ◌++◌, length, find, flat_map, Option, Some, None, option_map, Result, Ok, Err, IfOk, IfErr, OnErr}
use Rattle.std.specs.List.{list_any}
use Rattle.qm_jobs.specs.{Changes.changes_of, Changes.unit_changes, Jobs.Job, Jobs.has_id, States.stands, States.gone, States.worked}
use Rattle.qm_jobs.specs.{Ways.way_of, Ways.passed, declared.changes.Change.Change, declared.jobs.JobFault.JobFault}
use Rattle.qm_jobs.specs.declared.jobs.JobFault.TheVariants.{NoJob, JobExists, NotInThisState, JobsFull, Memory}
use Rattle.qm_jobs.specs.declared.{jobs.TheConstants.MOST_JOBS, state.JobState.JobState}
use Rattle.qm_jobs.specs.declared.{status.Status.TheVariants.Created, status.Status.TheVariants.Running, ways.Way.Way}
use Rattle.qm_plan.specs.declared.verbs.Verb.{Verb}

-- what a call does: the changes in order, and the table after them
pub record Outcome : Type 0 where
  pub changes : List Change
  pub table : List Job

-- the job, unless it is out of the table
abbrev pub kept : Job → List Job
kept job = cond (stands job.state) (job ∷ []) []

-- the table once the job of an id stands so, and each other as before
abbrev pub with_state : List ℕ → JobState → List Job → List Job
with_state id state table = flat_map (λ job. cond (has_id id job) (kept (record job { state = state })) (job ∷ [])) table

-- how the job of an id stands
abbrev pub state_of : List ℕ → List Job → Option JobState
state_of id table = option_map (λ job. job.state) (find (has_id id) table)

-- a job that is started passes created and stands at running
abbrev pub started : ℕ → Bool → Bool → JobState
started units ready manual = record { status = Running; done = 0; units = units; ready = ready; manual = manual }

-- starting a job
abbrev pub start_of : List Job → List ℕ → JobState → Result Outcome JobFault
start_of table id state =
    cond (list_any (has_id id) table) (Err JobExists)
    (cond (nat_le MOST_JOBS (length table)) (Err JobsFull)
    (Ok (record { changes = changes_of id (Created ∷ Running ∷ []); table = table ++ record { id = id; state = state } ∷ [] })))

-- a job goes the way of a verb, where its status has one
abbrev pub go_of : List Job → List ℕ → JobState → Option Way → Result Outcome JobFault
go_of table id state None = Err (NotInThisState state.status)
go_of table id state (Some way) = Ok (record { changes = changes_of id (passed state.manual way); table = with_state id (gone way state) table })

-- a verb on the job that was found
abbrev pub verb_on : List Job → Verb → List ℕ → Option JobState → Result Outcome JobFault
verb_on table verb id None = Err NoJob
verb_on table verb id (Some state) = go_of table id state (way_of verb state.status)

-- a verb on the job of an id
abbrev pub verb_of : List Job → Verb → List ℕ → Result Outcome JobFault
verb_of table verb id = verb_on table verb id (state_of id table)

-- one unit of each running job
abbrev pub work_of : List Job → Outcome
work_of table = record {
  changes = flat_map (λ job. unit_changes job.id job.state) table;
  table = flat_map (λ job. kept (record job { state = worked job.state })) table;
}

-- a call did what is told, or found no memory, of which a refusal has no need; after an error the
-- table is as before
pub record Does (told : Result Outcome JobFault) (old : List Job) (result : Result (List Change) JobFault) (new : List Job) : Type 0 where
  pub ok : IfOk result (λ changes. told ≡ Ok (record { changes = changes; table = new }))
  pub err : IfErr result (λ fault. fault ≢ Memory → told ≡ Err fault)
  pub refused : IfErr told (λ fault. result ≡ Err fault)
  pub same : OnErr result (new ≡ old)
