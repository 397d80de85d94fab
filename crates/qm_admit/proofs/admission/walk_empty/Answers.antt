use Rattle.std.proofs.Common.{◌∙◌, sym, refl, []}
use Rattle.qm_admit.proofs.Steps.{empty-some}
use Rattle.qm_admit.proofs.admission.walk_empty.Goals as goal

pub returns-in-Some : goal.returns-in-Some
returns-in-Some c = empty-some c.args.schema.now.kinds c.args.type_id c.in-Some.found [] (sym c.alternative.ensures.value ∙ c.in-Some.is) refl c.walk_object.ensures
