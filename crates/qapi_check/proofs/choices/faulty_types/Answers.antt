use Rattle.qapi_types.specs.Goodness.{choices_of}
use Rattle.qapi_check.proofs.ClashLaws.{mark_more}
use Rattle.qapi_check.proofs.choices.faulty_types.Goals as goal

pub loop-number-preserved : goal.loop-number-preserved
loop-number-preserved c = mark_more (choices_of c.args.kinds.now) c.loop-number.number c.loop-number.marks.items c.push.new.self.items c.in_ok-faults.faults.clashes c.loop-number.invariant c.in_ok-push.ensures.items c.in_ok-faults.ensures.clash
