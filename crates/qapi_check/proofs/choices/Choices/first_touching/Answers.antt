use Rattle.std.proofs.Common.{true, ◌≡◌, take, drop, suc, arith}
use Rattle.std.proofs.Math.Seq.{split_at}
use Rattle.qapi_types.specs.Goodness.{choices_of}
use Rattle.qapi_check.proofs.ClashLaws.{none_more}
use Rattle.qapi_check.proofs.choices.Choices.first_touching.Goals as goal

pub returns-then-branch : goal.returns-then-branch
returns-then-branch c = record {
  before = take c.loop-number.number-index c.args.types.now;
  after = drop (suc c.loop-number.number-index) c.args.types.now;
  split = split_at c.args.types.now c.loop-number.number-index 0 (omega arith);
  none = c.loop-number.invariant;
  touches = c.in_ok-touches_from.ensures.0 c.if-branch.true;
}

pub loop-number-preserved : goal.loop-number-preserved
loop-number-preserved c = none_more (choices_of c.args.self.now) c.args.seen.now c.args.types.now c.loop-number.number-index 0 (omega arith) c.loop-number.invariant (λ f. (let k : c.in_ok-touches_from.field-0 ≡ true = c.in_ok-touches_from.ensures.1 f in let e = c.if-branch.false in cc))
