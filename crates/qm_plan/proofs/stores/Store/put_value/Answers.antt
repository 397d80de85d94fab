use Rattle.std.proofs.Common.{◌∙◌, ap, refl}
use Rattle.qm_plan.specs.Stores.{counts_of, held_of}
use Rattle.qm_plan.proofs.Tables.{table-set}
use Rattle.qm_plan.proofs.stores.Store.put_value.Goals as goal

pub returns : goal.returns
returns c =
    let made = ap (held_of (λ key. key.items)) c.set_cell.ensures.entries
    ∙ table-set (λ key. key.items) (λ n v. record { name = n; value = v }) (λ c. c.name) (λ c. c.value) (λ n v. refl) (λ n v. refl) c.args.name.now c.args.value c.self.inside.cells.entries c.set_cell.ensures.unique in
    rw (← c.self.view_is) (ap (λ cells. record { cells = cells; tallies = counts_of (λ key. key.items) c.self.inside.tallies.entries }) made)
