use Rattle.std.proofs.Common.{◌≡◌, ◌∙◌, sym}
use Rattle.qm_jobs.specs.Table.{work_of}
use Rattle.qm_jobs.proofs.Tables.{table-changes}
use Rattle.qm_jobs.proofs.jobs.Jobs.work.Goals as goal

pub returns-clause-ok : goal.returns-clause-ok
returns-clause-ok c =
    let changes : c.in_ok-changes.changes ≡ (work_of c.args.self.now).changes =
    rw (← c.self.view_is) (c.in_ok-changes.ensures ∙ sym (table-changes (λ key. key.items) c.self.inside.states.entries)) in
    λ i. record { changes = changes i; table = c.do_units.ensures i }
