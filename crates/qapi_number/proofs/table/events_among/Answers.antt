use Rattle.std.proofs.Common.{ℕ, arith, map, take}
use Rattle.std.specs.List.{enumerate_from}
use Rattle.qapi_define.specs.declared.definition.Definition.{Definition}
use Rattle.qapi_number.specs.PartsOf.{event_in, call_told}
use Rattle.qapi_number.proofs.EnumerateLaws.{flat_mapped, enumerate_told}
use Rattle.qapi_number.proofs.table.events_among.Goals as goal

pub loop-index-preserved : goal.loop-index-preserved
loop-index-preserved c = flat_mapped (λ (e : ℕ × (ℕ × Definition)). event_in c.args.numbering.now e.1.1.sort e.0 e.1.0 e.1.1) (enumerate_from 0 (map call_told (take c.loop-index.index c.args.calls.now))) _ (c.loop-index.index, call_told c.index-calls-index.result) _ _ (enumerate_told call_told c.args.calls.now c.loop-index.index c.index-calls-index.result (omega arith) c.index-calls-index.is) c.loop-index.invariant c.in_ok-add_event.ensures
