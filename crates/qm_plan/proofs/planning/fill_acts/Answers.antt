use Rattle.qm_plan.specs.Plans.{filled_act}
use Rattle.qm_plan.proofs.Gathering.{gathers_next}
use Rattle.qm_plan.proofs.planning.fill_acts.Goals as goal

pub loop-act-preserved : goal.loop-act-preserved
loop-act-preserved c = gathers_next (filled_act c.args.arguments.now) c.args.acts.now c.loop-act.act-index c.act-item.result c.in_ok-next.next c.loop-act.left c.push_some.new.list c.loop-act-test.true c.act-item.is c.in_ok-next.ensures c.loop-act.invariant c.in_ok-push_some.ensures
