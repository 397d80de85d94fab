use Rattle.qm_plan.specs.Stores.{committed}
use Rattle.qm_plan.proofs.Commits.{act-step}
use Rattle.qm_plan.proofs.applying.changes_by.Goals as goal

pub loop-next-preserved : goal.loop-next-preserved
loop-next-preserved c =
    let store = c.args.store.now in
    act-step c.args.facts.now c.args.acts.now c.loop-next.next-index c.next-item.result (committed c.loop-next.changes store) (committed c.act.new.changes store) _ c.loop-next-test.true c.next-item.is c.in_ok-act.ensures.ok c.loop-next.invariant
