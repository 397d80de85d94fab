use Rattle.std.proofs.Common.{ℕ, arith, take}
use Rattle.std.specs.List.{enumerate_from}
use Rattle.qapi_define.specs.declared.definition.Definition.{Definition}
use Rattle.qapi_number.specs.PartsOf.{is_call_sort}
use Rattle.qapi_number.proofs.EnumerateLaws.{gathered, enumerate_item}
use Rattle.qapi_number.proofs.table.calls.Goals as goal

pub loop-at-preserved : goal.loop-at-preserved
loop-at-preserved c = gathered (λ (e : ℕ × Definition). is_call_sort e.1.sort) (enumerate_from 0 (take c.loop-at.at c.args.definitions.now)) _ (c.loop-at.at, c.index-definitions-at.result) _ _ (enumerate_item c.args.definitions.now c.loop-at.at c.index-definitions-at.result (omega arith) c.index-definitions-at.is) c.loop-at.invariant c.in_ok-add_call.ensures
