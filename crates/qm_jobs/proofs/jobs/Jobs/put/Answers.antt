use Rattle.std.proofs.Common.{◌≡◌, ◌∙◌, ap, false, true, rules}
use Rattle.qm_jobs.specs.{Jobs.table_of, States.stands}
use Rattle.qm_jobs.proofs.Tables.{table-remove, table-set}
use Rattle.qm_jobs.proofs.jobs.Jobs.put.Goals as goal

pub returns-then-not-stands : goal.returns-then-not-stands
returns-then-not-stands c =
    let gone : stands c.args.state ≡ false = search rules in
    rw (← c.self.view_is) (ap (table_of (λ key. key.items)) (rw c.set_state.ensures.states at c.shift_remove.ensures.entries)
    ∙ table-remove (λ key. key.items) c.args.id.now c.args.state c.self.inside.states.entries gone c.set_state.ensures.unique)

pub returns-else-not-stands : goal.returns-else-not-stands
returns-else-not-stands c =
    let there : stands c.args.state ≡ true = search rules in
    rw (← c.self.view_is) (ap (table_of (λ key. key.items)) c.set_state.ensures.states
    ∙ table-set (λ key. key.items) c.args.id.now c.args.state c.self.inside.states.entries there c.set_state.ensures.unique)
