use Rattle.std.proofs.Common.{arith}
use Rattle.qm_plan.specs.Stores.{tally_in}
use Rattle.qm_plan.proofs.Commits.{newest-stops, newest-goes}
use Rattle.qm_plan.proofs.overlay.newest_count.Goals as goal

pub returns-in-Some : goal.returns-in-Some
returns-in-Some c =
    newest-stops (tally_in c.args.name.now) c.args.changes.now c.loop-end.end c.index-changes-end.result c.in-Some.count (omega arith) c.loop-end.invariant.within c.index-changes-end.is c.in-Some.ensures c.loop-end.invariant.rest

pub loop-end-preserved : goal.loop-end-preserved
loop-end-preserved c = record {
  within = omega arith;
  rest = newest-goes (tally_in c.args.name.now) c.args.changes.now c.loop-end.end c.index-changes-end.result (omega arith) c.loop-end.invariant.within c.index-changes-end.is c.in_default.ensures c.loop-end.invariant.rest;
}
