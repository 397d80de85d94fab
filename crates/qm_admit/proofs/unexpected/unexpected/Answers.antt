use Rattle.std.proofs.Common.{◌∙◌, sym}
use Rattle.qm_admit.specs.Walks.{chosen_types}
use Rattle.qm_admit.proofs.Steps.{unknown-none, unknown-some}
use Rattle.qm_admit.proofs.unexpected.unexpected.Goals as goal

pub returns-in-None : goal.returns-in-None
returns-in-None c = unknown-none c.args.schema.now.kinds c.args.given.now (chosen_types c.args.schema.now.kinds c.args.given.now c.args.type_id) (sym c.first_unknown.ensures ∙ c.in-None.is) c.requires.path

pub returns-in-Some : goal.returns-in-Some
returns-in-Some c = unknown-some c.args.schema.now.kinds c.args.given.now (chosen_types c.args.schema.now.kinds c.args.given.now c.args.type_id) c.in-Some.i (sym c.first_unknown.ensures ∙ c.in-Some.is) c.requires.path c.prepend.ensures
