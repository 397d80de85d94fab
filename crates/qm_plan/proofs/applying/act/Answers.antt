use Rattle.std.proofs.Common.{◌∙◌, ap, sym, Ok}
use Rattle.qm_plan.specs.declared.{changes.StoreChange.StoreChange, recipes.Act.Act}
use Rattle.qm_plan.specs.{Applying.act_of, Stores.Contents, Stores.changed, Stores.committed}
use Rattle.qm_plan.proofs.Commits.{noted}
use Rattle.qm_plan.proofs.applying.act.Goals as goal

pub returns-in_ok-note-in-Set-clause-ok : goal.returns-in_ok-note-in-Set-clause-ok
returns-in_ok-note-in-Set-clause-ok c =
    let store = c.args.store.now in
    let before = committed c.args.changes.now store in
    let made = rw c.as_slice.ensures at c.in_ok-made-in-Set.ensures in
    ap (λ (a : Act). act_of c.args.facts.now a before) c.in-Set.is
    ∙ ap (λ (s : Contents). Ok s) (sym (noted c.args.changes.now c.note.new.changes c.in_ok-made-in-Set.made store c.in_ok-note-in-Set.ensures.ok ∙ ap (λ (m : StoreChange). changed m before) made))

pub returns-in_ok-note-in-Add-clause-ok : goal.returns-in_ok-note-in-Add-clause-ok
returns-in_ok-note-in-Add-clause-ok c =
    let store = c.args.store.now in
    let before = committed c.args.changes.now store in
    let made = rw c.as_slice-in-Add.ensures at c.in_ok-made-in-Add.ensures.ok in
    ap (λ (a : Act). act_of c.args.facts.now a before) c.in-Add.is ∙ made
    ∙ ap (λ (s : Contents). Ok s) (sym (noted c.args.changes.now c.note-in-Add.new.changes c.in_ok-made-in-Add.made store c.in_ok-note-in-Add.ensures.ok))
