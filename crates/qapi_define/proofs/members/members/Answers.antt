use Rattle.std.proofs.Common.{arith}
use Rattle.qapi_define.specs.Members.{written_member}
use Rattle.qapi_define.proofs.Gathering.{gathers_next}
use Rattle.qapi_define.proofs.members.members.Goals as goal

pub loop-key-preserved : goal.loop-key-preserved
loop-key-preserved c = gathers_next (written_member c.args.defines.now) c.args.keys.now c.loop-key.key-index c.key-item.result c.in_ok-member.field-0 c.loop-key.made c.push_some.new.list (omega arith) c.key-item.is c.in_ok-member.ensures c.loop-key.invariant c.in_ok-push_some.ensures
