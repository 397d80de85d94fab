use Rattle.std.proofs.Common.{ap, ◌∙◌}
use Rattle.qm_base.specs.Names.{is_named}
use Rattle.qm_base.proofs.NameLemmas.{found}
use Rattle.qm_base.proofs.names.NameTable.has.Goals as goal

pub returns : goal.returns
returns c = c.contains.ensures ∙ found (λ k. k.items) c.args.name.now c.self.inside.names.keys ∙ ap (λ names. is_named names c.args.name.now) c.self.view_is
