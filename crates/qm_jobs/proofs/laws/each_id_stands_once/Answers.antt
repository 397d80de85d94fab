use Rattle.std.proofs.Common.{arith}
use Rattle.qm_jobs.proofs.Onces.{start_leaves, verb_leaves, work_leaves}
use Rattle.qm_jobs.proofs.laws.each_id_stands_once.Goals as goal

pub returns : goal.returns
returns c = record {
  empty = record { once = tt; few = omega arith };
  start = λ table id state o t is. start_leaves table id state o t is;
  verb = λ table verb id o t is. verb_leaves table verb id o t is;
  work = λ table t. work_leaves table t;
}
