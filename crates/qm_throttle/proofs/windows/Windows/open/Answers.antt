use Rattle.std.proofs.Common.{◌≡◌, None, rules, cond, true, false, ap, ◌∙◌}
use Rattle.std.specs.BTreeMap.{is_at}
use Rattle.qm_throttle.specs.{Deadlines.has_due, Deadlines.due_order, Steps.window_at, declared.due.Due.Due, Keys.Key}
use Rattle.qm_throttle.proofs.Keeping.{due_at, kept_opened, kept_back}
use Rattle.qm_throttle.proofs.windows.Windows.open.Goals as goal

pub invariant_of-self-in-Ok : goal.invariant_of-self-in-Ok
invariant_of-self-in-Ok c =
    let same : c.in_ok-copy.field-0 ≡ c.args.key = search rules in
    let absent : window_at c.args.key c.self.inside.map.entries ≡ None = rw c.self.view_is c.requires.absent in
    let put = λ (q : Due). c.in_default.ensures.updates.0 q ∙ ap (λ (k : Key). cond (is_at (due_order (due_at c.args.window.deadline k)) q) true (has_due c.self.inside.deadlines.keys q)) same in
    kept_opened c.self.inside.deadlines.keys c.insert.new.self.keys c.self.inside.map.entries c.insert-2.new.map.entries c.args.key c.args.window c.self.invariant absent c.requires.lasting put c.in-Ok.ensures.at

pub invariant_of-self-in-Err-insert : goal.invariant_of-self-in-Err-insert
invariant_of-self-in-Err-insert c =
    let same : c.in_ok-copy.field-0 ≡ c.args.key = search rules in
    let absent : window_at c.args.key c.self.inside.map.entries ≡ None = rw c.self.view_is c.requires.absent in
    let put = λ (q : Due). c.in_default.ensures.updates.0 q ∙ ap (λ (k : Key). cond (is_at (due_order (due_at c.args.window.deadline k)) q) true (has_due c.self.inside.deadlines.keys q)) same in
    let back = λ (q : Due). c.take_one.ensures q ∙ ap (λ (d : Due). cond (is_at (due_order d) q) false (has_due c.insert.new.self.keys q)) c.in-Err-insert.ensures.due in
    rw c.in-Err-insert.ensures.err
    (kept_back c.self.inside.deadlines.keys c.insert.new.self.keys c.take_one.new.deadlines.keys c.self.inside.map.entries c.args.key c.args.window.deadline c.self.invariant absent put back)
