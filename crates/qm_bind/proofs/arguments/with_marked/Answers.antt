use Rattle.std.proofs.Common.{refl, arith}
use Rattle.qapi_types.specs.Chains.{marked}
use Rattle.qm_bind.proofs.ArgumentLaws.{marked-more}
use Rattle.qm_bind.proofs.arguments.with_marked.Goals as goal

pub loop-number-preserved : goal.loop-number-preserved
loop-number-preserved c = marked-more c.loop-number.types c.add_marked.new.types c.args.types c.loop-number.number c.args.marks.now (marked c.args.marks.now c.loop-number.number) (omega arith) refl c.loop-number.invariant c.in_ok-add_marked.ensures
