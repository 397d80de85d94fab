use Rattle.qm_bind.proofs.Eaches.{none_if_not}
use Rattle.qm_bind.proofs.StandingLaws.{standing-acts, standing-answers, standing-none}
use Rattle.qm_bind.proofs.standing.standing.Goals as goal

pub returns-in-Some : goal.returns-in-Some
returns-in-Some c = standing-acts c.args.name.now c.in_ok-act.field-0 c.in-Some.act c.in_ok-with_act.field-0 c.in_ok-act.ensures c.in-Some.is c.in_ok-with_act.ensures

pub returns-in-Some-answer : goal.returns-in-Some-answer
returns-in-Some-answer c = standing-answers c.args.name.now c.in_ok-act.field-0 c.answer.result c.in-Some-answer.ret c.with_answer.result c.in_ok-act.ensures (none_if_not c.in_ok-act.field-0 c.in_default.not-Some) c.answer.ensures c.in-Some-answer.is c.with_answer.ensures

pub returns-in-None : goal.returns-in-None
returns-in-None c = standing-none c.args.name.now c.in_ok-act.field-0 c.answer.result c.in_ok-act.ensures (none_if_not c.in_ok-act.field-0 c.in_default.not-Some) c.answer.ensures c.in-None.is
