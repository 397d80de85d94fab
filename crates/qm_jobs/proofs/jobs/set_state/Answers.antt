use Rattle.std.proofs.Common.{ap, sym, ◌∙◌}
use Rattle.qm_jobs.proofs.Tables.{set-none}
use Rattle.qm_jobs.proofs.jobs.set_state.Goals as goal

pub returns-in_default-clause-states : goal.returns-in_default-clause-states
returns-in_default-clause-states c =
    ap (λ m. m.entries) c.get_mut.follows.holds-at-none ∙ sym (set-none (λ key. key.items) c.args.id.now c.args.state c.args.states.now.entries (sym c.in_default.ensures.value))
