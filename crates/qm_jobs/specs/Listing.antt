-- The answer of `query-jobs` (QEMU QMP Reference Manual, "query-jobs").
use Rattle.std.specs.Prelude.{ℕ, pos, List, [], ◌∷◌, codes, map}
use Rattle.qm_jobs.specs.{Jobs.Job, Statuses.name_of}
use Rattle.qm_json.specs.declared.value.Json.{Json, TheVariants.Int, TheVariants.Str, TheVariants.Arr, TheVariants.Obj}
use Rattle.qm_json.specs.declared.value.Member.{Member}

abbrev pub named : List ℕ → Json → Member
named name value = record { name = name; value = value }

-- a job with the units that are done and those in all
abbrev pub info_of : Job → Json
info_of job = Obj
    (named (codes "id") (Str job.id)
    ∷ named (codes "status") (Str (name_of job.state.status))
    ∷ named (codes "current-progress") (Int (pos job.state.done))
    ∷ named (codes "total-progress") (Int (pos job.state.units)) ∷ [])

-- the jobs in the order of starting
abbrev pub list_of : List Job → Json
list_of table = Arr (map info_of table)
