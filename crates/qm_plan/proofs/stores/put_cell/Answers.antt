use Rattle.std.proofs.Common.{◌≡◌, None, ap, ◌∙◌, refl}
use Rattle.std.specs.{Map.lookup, Str.bytes_eq}
use Rattle.indexmap.proofs.CallerLemmas.{insert_entry-new}
use Rattle.qm_plan.specs.Stores.{held_of}
use Rattle.qm_plan.proofs.Tables.{table-push, none-has}
use Rattle.qm_plan.proofs.stores.put_cell.Goals as goal

pub returns-in-Ok-insert : goal.returns-in-Ok-insert
returns-in-Ok-insert c =
    let none : lookup (λ key. bytes_eq c.args.name.now key.items) c.args.cells.now.entries ≡ None =
    none-has (λ key. key.items) (λ n v. record { name = n; value = v }) (λ c. c.name) (λ c. c.value) (λ n v. refl) (λ n v. refl) c.args.name.now c.args.cells.now.entries c.requires in
    let absent : lookup (λ key. bytes_eq c.in-Ok.key.items key.items) c.args.cells.now.entries ≡ None = rw c.in-Ok.ensures.items none in
    rw (← c.in-Ok.ensures.items)
    (ap (held_of (λ key. key.items)) (c.in-Ok-insert.ensures.entries ∙ insert_entry-new (λ x y. bytes_eq x.items y.items) c.args.cells.now c.in-Ok.key c.args.value absent)
    ∙ table-push (λ key. key.items) (λ n v. record { name = n; value = v }) (λ c. c.name) (λ c. c.value) (λ n v. refl) (λ n v. refl) c.args.cells.now.entries c.in-Ok.key c.args.value)
