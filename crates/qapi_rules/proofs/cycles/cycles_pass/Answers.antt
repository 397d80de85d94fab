use Rattle.std.proofs.Common.{sym, ap, ◌∙◌, option_map}
use Rattle.qapi_rules.specs.Blames.{told}
use Rattle.qapi_rules.proofs.CycleLaws.{none_on_cycle}
use Rattle.qapi_rules.proofs.cycles.cycles_pass.Goals as goal

pub returns-in-None-clause-none : goal.returns-in-None-clause-none
returns-in-None-clause-none c = none_on_cycle c.args.table.now (sym c.in_ok-blame.ensures ∙ ap (option_map told) c.in-None.is)
