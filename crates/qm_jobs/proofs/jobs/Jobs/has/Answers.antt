use Rattle.std.proofs.Common.{◌∙◌}
use Rattle.qm_jobs.proofs.Tables.{has}
use Rattle.qm_jobs.proofs.jobs.Jobs.has.Goals as goal

pub returns : goal.returns
returns c = rw (← c.self.view_is) (c.contains_key.ensures ∙ has (λ key. key.items) c.args.id.now c.self.inside.states.entries)
