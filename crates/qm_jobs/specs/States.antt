-- How a job stands, and what one unit of work makes of it (this project's own rule).
use Rattle.std.specs.Prelude.{◌+◌, nat_lt, Bool, true, false, cond}
use Rattle.qm_jobs.specs.{Ways.reached, declared.state.JobState.JobState, declared.status.Status.Status, declared.ways.Way.Way}
use Rattle.qm_jobs.specs.declared.status.Status.TheVariants as status
use Rattle.qm_jobs.specs.declared.ways.Way.TheVariants.{To, End}

abbrev pub is_at_running : Status → Bool
is_at_running status.Running = true
is_at_running status = false

-- the job works
abbrev pub is_running : JobState → Bool
is_running state = is_at_running state.status

abbrev pub is_not_null : Status → Bool
is_not_null status.Null = false
is_not_null status = true

-- a job at null is out of the table
abbrev pub stands : JobState → Bool
stands state = is_not_null state.status

-- the state at the end of a way
abbrev pub gone : Way → JobState → JobState
gone way state = record state { status = reached state.manual way }

-- there is another unit after the next
abbrev pub has_more : JobState → Bool
has_more state = nat_lt (state.done + 1) state.units

-- the last unit leads to ready where the job was started so, and else to the end
abbrev pub end_of : JobState → Way
end_of state = cond state.ready (To status.Ready) End

-- the state after one unit, which only a running job does
abbrev pub worked : JobState → JobState
worked state =
    cond (is_running state)
    (cond (has_more state) (record state { done = state.done + 1 }) (gone (end_of state) (record state { done = state.units })))
    state
