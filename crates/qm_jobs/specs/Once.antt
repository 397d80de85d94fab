-- Tables in which each id stands once (this project's own rule).
use Rattle.std.specs.Prelude.{◌≡◌, ◌≤◌, false, List, [], ◌∷◌, length}
use Rattle.std.specs.List.{list_any}
use Rattle.qm_jobs.specs.Jobs.{Job, has_id}
use Rattle.qm_jobs.specs.declared.jobs.TheConstants.{MOST_JOBS}

-- no two jobs have one id
abbrev pub IsOnce : List Job → Type 0
IsOnce [] = Unit {0}
IsOnce (job ∷ table) = (list_any (has_id job.id) table ≡ false) × IsOnce table

-- a table as calls leave it: each id stands once, and there are not too many jobs
pub record IsTable (table : List Job) : Type 0 where
  pub once : IsOnce table
  pub few : length table ≤ MOST_JOBS
