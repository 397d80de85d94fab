use Rattle.std.proofs.Common.{ap, sym, ◌∙◌}
use Rattle.qm_plan.proofs.Tables.{set-none}
use Rattle.qm_plan.proofs.stores.set_cell.Goals as goal

pub returns-in_default-clause-entries : goal.returns-in_default-clause-entries
returns-in_default-clause-entries c =
    ap (λ m. m.entries) c.get_mut.follows.holds-at-none
    ∙ sym (set-none (λ key. key.items) c.args.name.now c.args.value c.args.cells.now.entries (sym c.in_default.ensures.value))
