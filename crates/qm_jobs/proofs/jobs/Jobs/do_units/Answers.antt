use Rattle.std.proofs.Common.{rules}
use Rattle.qm_jobs.proofs.Tables.{table-retained}
use Rattle.qm_jobs.proofs.jobs.Jobs.do_units.Goals as goal

pub returns : goal.returns
returns c =
    rw (← c.self.view_is)
    (table-retained (λ key. key.items) _ _ (λ k v b w g h. search rules) c.self.inside.states.entries c.retain.new.self.entries c.retain.ensures.filtered)
