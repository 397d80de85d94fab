use Rattle.std.proofs.Common.{◌∙◌, sym}
use Rattle.qm_admit.proofs.GoodParts.{element-within}
use Rattle.qm_admit.proofs.admission.element_at.Goals as goal

pub returns-in-Array-clause-some : goal.returns-in-Array-clause-some
returns-in-Array-clause-some c = (sym c.kind.ensures ∙ c.in-Array.is, element-within c.args.schema.now c.parts-parts.ensures.good c.args.type_id c.requires c.in-Array.element (sym c.kind.ensures ∙ c.in-Array.is))
