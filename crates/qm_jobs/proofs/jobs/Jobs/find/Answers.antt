use Rattle.std.proofs.Common.{◌∙◌}
use Rattle.qm_jobs.proofs.Tables.{found}
use Rattle.qm_jobs.proofs.jobs.Jobs.find.Goals as goal

pub returns : goal.returns
returns c = rw (← c.self.view_is) (c.copied.ensures ∙ c.get.ensures.value ∙ found (λ key. key.items) c.args.id.now c.self.inside.states.entries)
