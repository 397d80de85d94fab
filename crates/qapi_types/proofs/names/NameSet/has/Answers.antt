use Rattle.std.proofs.Common.{ap, ◌∙◌}
use Rattle.qapi_types.specs.Choices.{stands}
use Rattle.qm_base.proofs.NameLemmas.{found}
use Rattle.qapi_types.proofs.names.NameSet.has.Goals as goal

pub returns : goal.returns
returns c = c.contains.ensures ∙ found (λ k. k.now) c.args.name.now c.self.inside.names.keys ∙ ap (λ names. stands c.args.name.now names) c.self.view_is
