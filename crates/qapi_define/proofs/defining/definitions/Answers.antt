use Rattle.std.proofs.Common.{arith}
use Rattle.qapi_define.specs.Definitions.{definition_of}
use Rattle.qapi_define.proofs.Gathering.{gathers_next}
use Rattle.qapi_define.proofs.defining.definitions.Goals as goal

pub loop-source-preserved : goal.loop-source-preserved
loop-source-preserved c = gathers_next (definition_of c.args.defines.now) c.args.sources.now c.loop-source.source-index c.source-item.result c.in_ok-definition.field-0 c.loop-source.made c.push_some.new.list (omega arith) c.source-item.is c.in_ok-definition.ensures c.loop-source.invariant c.in_ok-push_some.ensures
