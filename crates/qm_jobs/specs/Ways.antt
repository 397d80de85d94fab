-- Where the verbs lead a job, and the statuses that it passes (this project's own rule, in the words of the
-- QEMU QMP Reference Manual, "JobVerb").
use Rattle.std.specs.Prelude.{Bool, cond, List, [], ◌∷◌, Option, Some, None}
use Rattle.qm_jobs.specs.declared.status.Status.{Status}
use Rattle.qm_jobs.specs.declared.status.Status.TheVariants.{Running, Paused, Ready, Standby, Waiting, Pending, Aborting, Concluded, Null}
use Rattle.qm_jobs.specs.declared.ways.Way.{Way, TheVariants.To, TheVariants.End, TheVariants.Abort}
use Rattle.qm_plan.specs.declared.verbs.Verb.{Verb}
use Rattle.qm_plan.specs.declared.verbs.Verb.TheVariants.{Cancel, Pause, Resume, Complete, Finalize, Dismiss}

-- a way for each status at which a job can stand
abbrev pub ways : (running paused ready standby pending concluded : Option Way) → Status → Option Way
ways running paused ready standby pending concluded Running = running
ways running paused ready standby pending concluded Paused = paused
ways running paused ready standby pending concluded Ready = ready
ways running paused ready standby pending concluded Standby = standby
ways running paused ready standby pending concluded Pending = pending
ways running paused ready standby pending concluded Concluded = concluded
ways running paused ready standby pending concluded status = None

-- no entry in the table
abbrev pub no : Option Way
no = None

abbrev pub to : Status → Option Way
to status = Some (To status)

abbrev pub end : Option Way
end = Some End

abbrev pub abort : Option Way
abort = Some Abort

-- the table of verbs. Its columns: running, paused, ready, standby, pending, concluded
abbrev pub way_of : Verb → Status → Option Way
way_of Pause = ways (to Paused) no (to Standby) no no no
way_of Resume = ways no (to Running) no (to Ready) no no
way_of Complete = ways no no end no no no
way_of Cancel = ways abort abort abort abort abort no
way_of Finalize = ways no no no no (to Concluded) no
way_of Dismiss = ways no no no no no (to Null)

-- the statuses that are passed on a way, one after the other; a manual job waits at two of them
abbrev pub passed : Bool → Way → List Status
passed manual (To status) = status ∷ []
passed manual End = Waiting ∷ Pending ∷ cond manual [] (Concluded ∷ Null ∷ [])
passed manual Abort = Aborting ∷ Concluded ∷ cond manual [] (Null ∷ [])

-- the last of the statuses, or the given one without any
abbrev pub last_status : Status → List Status → Status
last_status status [] = status
last_status status (next ∷ rest) = last_status next rest

-- the status at which a way ends
abbrev pub reached : Bool → Way → Status
reached manual way = last_status Null (passed manual way)
