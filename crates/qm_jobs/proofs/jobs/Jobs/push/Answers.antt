use Rattle.std.proofs.Common.{◌≡◌, None, ap, ◌∙◌}
use Rattle.std.specs.{Map.lookup, Str.bytes_eq}
use Rattle.indexmap.proofs.CallerLemmas.{insert_entry-new}
use Rattle.qm_jobs.specs.Jobs.{table_of}
use Rattle.qm_jobs.proofs.Tables.{table-push, none-has}
use Rattle.qm_jobs.proofs.jobs.Jobs.push.Goals as goal
use Rattle.qm_jobs.proofs.jobs.Jobs.push.Goals.{in-Ok-insert, in-Err}

pub returns-clause-ok : goal.returns-clause-ok
returns-clause-ok c =
    let none : lookup (λ key. bytes_eq c.args.id.now key.items) c.self.inside.states.entries ≡ None =
    none-has (λ key. key.items) c.args.id.now c.self.inside.states.entries (rw (← c.self.view_is) at c.requires) in
    let absent : lookup (λ key. bytes_eq c.in-Ok.key.items key.items) c.self.inside.states.entries ≡ None = rw c.in-Ok.ensures.items none in
    elim c.match-insert.branch [
      | in-Ok-insert w ↦ rw (w.result-is, ← c.self.view_is, ← c.in-Ok.ensures.items)
          (ap (table_of (λ key. key.items)) (w.in-Ok-insert.ensures.entries ∙ insert_entry-new (λ x y. bytes_eq x.items y.items) c.self.inside.states c.in-Ok.key c.args.state absent)
          ∙ table-push (λ key. key.items) c.self.inside.states.entries c.in-Ok.key c.args.state)
      | in-Err w ↦ rw w.result-is tt
    ]
