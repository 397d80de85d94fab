use Rattle.std.proofs.Common.{◌∙◌}
use Rattle.qm_bind.proofs.StandingLaws.{standing-act, standing-answer}
use Rattle.qm_bind.proofs.standing.is_standing.Goals as goal

pub returns-then-acts : goal.returns-then-acts
returns-then-acts c = c.if-acts.true ∙ standing-act c.args.name.now c.acts.result c.acts.ensures c.if-acts.true

pub returns-else-acts : goal.returns-else-acts
returns-else-acts c = standing-answer c.args.name.now c.acts.result c.answer.result c.is_some.result c.acts.ensures c.if-acts.false c.answer.ensures c.is_some.ensures
