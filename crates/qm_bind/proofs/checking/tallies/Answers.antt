use Rattle.std.proofs.Common.{arith}
use Rattle.qm_bind.proofs.NameLaws.{pushed-more}
use Rattle.qm_bind.proofs.checking.tallies.Goals as goal

pub loop-item-preserved : goal.loop-item-preserved
loop-item-preserved c = pushed-more c.args.items.now c.loop-item.item-index c.item-item.result c.loop-item.names c.push_text.new.names (omega arith) c.item-item.is c.loop-item.invariant c.in_ok-push_text.ensures
