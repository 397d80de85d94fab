use Rattle.qm_plan.proofs.Commits.{outcome-is}
use Rattle.qm_plan.proofs.applying.apply.Goals as goal

pub returns-clause-ok : goal.returns-clause-ok
returns-clause-ok c =
    outcome-is c.args.facts.now c.args.plan.now c.args.store.now
    (record { ret = c.in_ok-ret.ret; changes = c.in_ok-changes.changes; jobs = c.in_ok-jobs.jobs; raised = c.in_ok-raised.raised; enable = c.first_enabling.result; quit = c.any_quits.result })
    (rw c.as_slice-acts.ensures at c.in_ok-changes.ensures.ok)
    (rw c.as_slice-3.ensures at c.in_ok-ret.ensures) (rw (c.as_slice.ensures, c.as_slice-acts.ensures) at c.in_ok-jobs.ensures) (rw (c.as_slice-2.ensures, c.as_slice-acts.ensures) at c.in_ok-raised.ensures)
    (rw c.as_slice-acts.ensures at c.first_enabling.ensures) (rw c.as_slice-acts.ensures at c.any_quits.ensures)
