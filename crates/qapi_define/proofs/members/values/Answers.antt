use Rattle.std.proofs.Common.{arith}
use Rattle.qapi_define.specs.Members.{written_value}
use Rattle.qapi_define.proofs.Gathering.{gathers_next}
use Rattle.qapi_define.proofs.members.values.Goals as goal

pub loop-item-preserved : goal.loop-item-preserved
loop-item-preserved c = gathers_next (written_value c.args.defines.now) c.args.items.now c.loop-item.item-index c.item-item.result c.in_ok-value.field-0 c.loop-item.made c.push_some.new.list (omega arith) c.item-item.is c.in_ok-value.ensures c.loop-item.invariant c.in_ok-push_some.ensures
