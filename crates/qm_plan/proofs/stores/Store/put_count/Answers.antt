use Rattle.std.proofs.Common.{◌∙◌, ap, refl}
use Rattle.qm_plan.specs.Stores.{counts_of, held_of}
use Rattle.qm_plan.proofs.Tables.{table-set}
use Rattle.qm_plan.proofs.stores.Store.put_count.Goals as goal

pub returns : goal.returns
returns c =
    let made = ap (counts_of (λ key. key.items)) c.set_tally.ensures.entries
    ∙ table-set (λ key. key.items) (λ n v. record { name = n; count = v }) (λ t. t.name) (λ t. t.count) (λ n v. refl) (λ n v. refl) c.args.name.now c.args.count c.self.inside.tallies.entries c.set_tally.ensures.unique in
    rw (← c.self.view_is) (ap (λ tallies. record { cells = held_of (λ key. key.items) c.self.inside.cells.entries; tallies = tallies }) made)
