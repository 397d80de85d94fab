use Rattle.std.proofs.Common.{◌∙◌, sym}
use Rattle.qm_jobs.proofs.Tables.{any-running}
use Rattle.qm_jobs.proofs.jobs.Jobs.any_running.Goals as goal

pub returns : goal.returns
returns c = rw (← c.self.view_is) (c.is_one_running.ensures ∙ sym (any-running (λ key. key.items) c.self.inside.states.entries))
