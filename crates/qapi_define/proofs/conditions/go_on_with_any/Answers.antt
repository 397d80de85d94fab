use Rattle.qapi_define.proofs.ConditionLaws.{any_more}
use Rattle.qapi_define.proofs.conditions.go_on_with_any.Goals as goal

pub returns-in_ok-push-in-Some-2-clause-value : goal.returns-in_ok-push-in-Some-2-clause-value
returns-in_ok-push-in-Some-2-clause-value c = any_more c.args.defines.now c.args.frames.now.items c.push.new.frames.items c.push-in-Some.new.frames.items c.in-Some.first c.in-Some.rest c.args.trees.now c.args.value c.if-value.false c.in_ok-push-in-Some.ensures.frames c.in_ok-push-in-Some-2.ensures.frames c.in-Some.ensures.cases
