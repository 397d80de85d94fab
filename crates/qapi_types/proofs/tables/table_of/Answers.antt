use Rattle.std.proofs.Common.{arith}
use Rattle.qapi_types.proofs.TableLaws.{table_more}
use Rattle.qapi_types.proofs.tables.table_of.Goals as goal

pub loop-name-preserved : goal.loop-name-preserved
loop-name-preserved c = table_more (λ k. k.now) c.args.names.now c.loop-name.name-index _ c.loop-name.table c.add.new.self (omega arith) c.requires.apart c.loop-name.invariant c.in_ok-add.ensures
