use Rattle.std.proofs.Common.{List, ap, sym, ◌∙◌}
use Rattle.qm_json.specs.declared.value.Json.{Json, TheVariants.Arr}
use Rattle.qm_jobs.proofs.Tables.{table-infos}
use Rattle.qm_jobs.proofs.jobs.Jobs.list.Goals as goal

pub returns : goal.returns
returns c =
    rw (← c.self.view_is) (ap (λ (items : List Json). Arr items) (c.in_ok-infos.ensures ∙ sym (table-infos (λ key. key.items) c.self.inside.states.entries)))
