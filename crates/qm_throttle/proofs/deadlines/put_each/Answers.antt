use Rattle.std.proofs.Common.{◌≡◌, Bool, true, cond, ap, ◌∙◌, rules}
use Rattle.std.specs.BTreeMap.{is_at}
use Rattle.qm_throttle.specs.{Deadlines.due_order, Deadlines.has_due, declared.due.Due.Due}
use Rattle.qm_throttle.proofs.Dues.{one_put}
use Rattle.qm_throttle.proofs.deadlines.put_each.Goals as goal

pub loop-due-preserved : goal.loop-due-preserved
loop-due-preserved c = λ q.
    let same : c.in_ok-due.due ≡ c.due-item.result = search rules in
    c.in_default.ensures.updates.0 q
    ∙ ap (λ (d : Due). cond (is_at (due_order d) q) true (has_due c.loop-due.deadlines.keys q)) same
    ∙ ap (λ (b : Bool). cond (is_at (due_order c.due-item.result) q) true b) (c.loop-due.invariant q)
    ∙ one_put c.args.nexts.now c.loop-due.due-index c.due-item.result q (has_due c.args.deadlines.now.keys q) c.loop-due-test.true c.due-item.is
