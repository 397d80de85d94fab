use Rattle.std.proofs.Common.{◌∙◌, refl}
use Rattle.qm_plan.proofs.Tables.{found}
use Rattle.qm_plan.proofs.stores.Store.tally.Goals as goal

pub returns : goal.returns
returns c = rw (← c.self.view_is) (c.copied.ensures ∙ c.get.ensures.value ∙ found (λ key. key.items) (λ n v. record { name = n; count = v }) (λ t. t.name) (λ t. t.count) (λ n v. refl) (λ n v. refl) c.args.name.now c.self.inside.tallies.entries)
