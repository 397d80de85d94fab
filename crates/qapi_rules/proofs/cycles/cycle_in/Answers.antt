use Rattle.std.proofs.Common.{◌∙◌, ap, sym, length}
use Rattle.qapi_rules.proofs.CycleLaws.{graph_inside, graph_long}
use Rattle.qapi_rules.proofs.cycles.cycle_in.Goals as goal

pub first_on_cycle-requires-clause-inside : goal.first_on_cycle-requires-clause-inside
first_on_cycle-requires-clause-inside c = graph_inside c.args.table.now _ (c.deref.ensures.value ∙ c.in_ok-graph.ensures)

pub first_on_cycle-requires-clause-long : goal.first_on_cycle-requires-clause-long
first_on_cycle-requires-clause-long c = graph_long c.args.table.now _ (c.deref.ensures.value ∙ c.in_ok-graph.ensures) ∙ sym (ap length c.definitions.ensures)
