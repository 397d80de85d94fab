use Rattle.std.proofs.Common.{◌≡◌, ◌++◌, flat_map}
use Rattle.qm_jobs.specs.Changes.{unit_changes}
use Rattle.qm_jobs.proofs.jobs.work_changes.Given as goal

abbrev pub invariant-loop-id : goal.invariant-loop-id
invariant-loop-id l =
    l.changes ++ flat_map (λ e. unit_changes e.0.items e.1) l.id-iterator ≡ flat_map (λ e. unit_changes e.0.items e.1) l.states.entries
