use Rattle.std.proofs.Common.{◌≡◌, None, ap, ◌∙◌, refl}
use Rattle.std.specs.{Map.lookup, Str.bytes_eq}
use Rattle.indexmap.proofs.CallerLemmas.{insert_entry-new}
use Rattle.qm_plan.specs.Stores.{counts_of}
use Rattle.qm_plan.proofs.Tables.{table-push, none-has}
use Rattle.qm_plan.proofs.stores.put_tally.Goals as goal
use Rattle.qm_plan.proofs.stores.put_tally.Goals.{in-Ok-insert, in-Err}

pub returns : goal.returns
returns c =
    let none : lookup (λ key. bytes_eq c.args.name.now key.items) c.args.tallies.now.entries ≡ None =
    none-has (λ key. key.items) (λ n v. record { name = n; count = v }) (λ t. t.name) (λ t. t.count) (λ n v. refl) (λ n v. refl) c.args.name.now c.args.tallies.now.entries c.requires in
    let absent : lookup (λ key. bytes_eq c.in-Ok.key.items key.items) c.args.tallies.now.entries ≡ None = rw c.in-Ok.ensures.items none in
    elim c.match-insert.branch [
      | in-Ok-insert w ↦ rw (w.result-is, ← c.in-Ok.ensures.items)
          (ap (counts_of (λ key. key.items)) (w.in-Ok-insert.ensures.entries ∙ insert_entry-new (λ x y. bytes_eq x.items y.items) c.args.tallies.now c.in-Ok.key 0 absent)
          ∙ table-push (λ key. key.items) (λ n v. record { name = n; count = v }) (λ t. t.name) (λ t. t.count) (λ n v. refl) (λ n v. refl) c.args.tallies.now.entries c.in-Ok.key 0)
      | in-Err w ↦ rw w.result-is tt
    ]
