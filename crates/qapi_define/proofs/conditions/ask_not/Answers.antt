use Rattle.qapi_define.proofs.ConditionLaws.{not_more}
use Rattle.qapi_define.proofs.conditions.ask_not.Goals as goal

pub returns-clause-value : goal.returns-clause-value
returns-clause-value c = not_more c.args.defines.now c.args.frames.now.items c.push.new.frames.items c.push-2.new.frames.items c.args.tree c.in_ok-push.ensures.frames c.in_ok-push-2.ensures.frames
