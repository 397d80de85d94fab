use Rattle.std.proofs.Common.{arith}
use Rattle.qapi_define.specs.Definitions.{written_part}
use Rattle.qapi_define.proofs.Gathering.{gathers_next}
use Rattle.qapi_define.proofs.parts.parts.Goals as goal

pub loop-key-preserved : goal.loop-key-preserved
loop-key-preserved c = gathers_next (written_part c.args.defines.now c.args.sort) c.args.keys.now c.loop-key.key-index c.key-item.result c.in_ok-part.field-0 c.loop-key.made c.push_some.new.list (omega arith) c.key-item.is c.in_ok-part.ensures c.loop-key.invariant c.in_ok-push_some.ensures
