use Rattle.std.proofs.Common.{◌∙◌}
use Rattle.qm_bind.proofs.NamedLaws.{cell-named}
use Rattle.qm_bind.proofs.named.has_cell.Goals as goal

pub returns : goal.returns
returns c = c.is_of_cell.ensures ∙ cell-named c.args.cells.now c.args.name.now
