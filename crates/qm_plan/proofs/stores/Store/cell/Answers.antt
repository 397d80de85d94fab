use Rattle.std.proofs.Common.{◌∙◌, refl}
use Rattle.qm_plan.proofs.Tables.{found}
use Rattle.qm_plan.proofs.stores.Store.cell.Goals as goal

pub returns : goal.returns
returns c = rw (← c.self.view_is) (c.get.ensures.value ∙ found (λ key. key.items) (λ n v. record { name = n; value = v }) (λ c. c.name) (λ c. c.value) (λ n v. refl) (λ n v. refl) c.args.name.now c.self.inside.cells.entries)
