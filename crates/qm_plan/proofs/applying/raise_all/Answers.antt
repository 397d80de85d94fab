use Rattle.qm_plan.specs.{Applying.raised_of, Stores.committed}
use Rattle.qm_plan.proofs.Gathering.{gathers_next}
use Rattle.qm_plan.proofs.applying.raise_all.Goals as goal

pub loop-act-preserved : goal.loop-act-preserved
loop-act-preserved c = gathers_next (raised_of c.args.facts.now (committed c.args.changes.now c.args.store.now)) c.args.acts.now c.loop-act.act-index c.act-item.result c.in_ok-next.next c.loop-act.raised c.note_some.new.list c.loop-act-test.true c.act-item.is c.in_ok-next.ensures c.loop-act.invariant c.in_ok-note_some.ensures
