use Rattle.std.proofs.Common.{◌≡◌, ◌++◌, take}
use Rattle.qm_jobs.specs.Changes.{changes_of}
use Rattle.qm_jobs.proofs.changes.note.Given as goal

abbrev pub invariant-loop-status : goal.invariant-loop-status
invariant-loop-status l = l.changes ≡ l.fn.changes ++ changes_of l.id (take l.status-index l.statuses)
