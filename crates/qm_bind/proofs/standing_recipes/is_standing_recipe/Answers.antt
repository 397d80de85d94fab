use Rattle.std.proofs.Common.{◌∙◌, sym}
use Rattle.qm_bind.proofs.StandingLaws.{standing-by-act, standing-by-answer}
use Rattle.qm_bind.proofs.standing_recipes.is_standing_recipe.Goals as goal

pub returns-then-acts : goal.returns-then-acts
returns-then-acts c =
    let same = standing-by-act c.args.name.now c.acts.result c.acts.ensures c.if-acts.true in
    (λ h. same ∙ c.is_acting.ensures.0 h, λ h. c.is_acting.ensures.1 (sym same ∙ h))

pub returns-else-acts : goal.returns-else-acts
returns-else-acts c =
    let same = standing-by-answer c.args.name.now c.acts.result c.acts.ensures c.if-acts.false in
    (λ h. same ∙ c.is_answering.ensures.0 h, λ h. c.is_answering.ensures.1 (sym same ∙ h))
