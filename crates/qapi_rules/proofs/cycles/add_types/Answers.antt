use Rattle.std.proofs.Common.{arith}
use Rattle.qapi_rules.proofs.CycleLaws.{types_more}
use Rattle.qapi_rules.proofs.cycles.add_types.Goals as goal

pub loop-variant-preserved : goal.loop-variant-preserved
loop-variant-preserved c = types_more c.args.table.now c.args.variants.now c.loop-variant.variant-index c.variant-item.result _ c.args.row.now c.loop-variant.row c.add_type.new.row (omega arith) c.variant-item.is c.loop-variant.invariant c.in_ok-add_type.ensures
