use Rattle.qm_jobs.proofs.Tables.{table-copied, same-items}
use Rattle.qm_jobs.proofs.jobs.Jobs.copy.Goals as goal

pub returns-in-Ok : goal.returns-in-Ok
returns-in-Ok c =
    rw (← c.self.view_is)
    (table-copied (λ key. key.items) _ _ (λ x y h. same-items x.items y.items h.0) (λ x y h. h) c.self.inside.states.entries c.in-Ok.states.entries c.in-Ok.ensures.cases)
