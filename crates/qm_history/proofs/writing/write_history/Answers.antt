use Rattle.std.proofs.Common.{◌∙◌, ◌+◌, arith}
use Rattle.qm_base.proofs.Telling.{puts-part}
use Rattle.qm_history.proofs.{Gathering.gathers-entry, Gathering.gathers-part, Gathering.gathers-put_part, Gathering.gathers-twice, Numbering.text-so_far}
use Rattle.qm_history.proofs.writing.write_history.Goals as goal

pub returns-in_err-put_entry-clause-text : goal.returns-in_err-put_entry-clause-text
returns-in_err-put_entry-clause-text g c =
    rw (← c.as_slice-entries.ensures) (puts-part _ _ c.from_residual.result _ c.from_residual.ensures.0 (gathers-part _ _ _ _ _ c.loop-i.invariant.so_far (text-so_far c.as_slice-entries.result.now c.loop-i.i (omega arith))))

pub returns-in_err-text-clause-text : goal.returns-in_err-text-clause-text
returns-in_err-text-clause-text g c =
    let so_far = gathers-entry _ _ _ c.put_entry.new.out c.as_slice-entries.result.now c.loop-i.i c.index-entries-i.result (omega arith) c.index-entries-i.is c.in_ok-put_entry.ensures c.loop-i.invariant.so_far in
    rw (← c.as_slice-entries.ensures) (puts-part _ _ c.from_residual-in_err-text.result _ c.from_residual-in_err-text.ensures.0 (gathers-put_part _ _ _ _ _ _ so_far (text-so_far c.as_slice-entries.result.now (c.loop-i.i + 1) (omega arith)) c.in_err-text.ensures.part))

pub loop-i-preserved : goal.loop-i-preserved
loop-i-preserved g c = record {
  so_far = gathers-twice _ _ _ _ _ _ (gathers-entry _ _ _ c.put_entry.new.out c.as_slice-entries.result.now c.loop-i.i c.index-entries-i.result (omega arith) c.index-entries-i.is c.in_ok-put_entry.ensures c.loop-i.invariant.so_far) c.in_ok-text.ensures.ok;
  kept = c.in_ok-text.ensures.cause ∙ c.loop-i.invariant.kept;
}

pub returns-in_err-put-clause-text : goal.returns-in_err-put-clause-text
returns-in_err-put-clause-text g c =
    rw (← c.as_slice-entries.ensures) (puts-part _ _ c.from_residual-in_err-put.result _ c.from_residual-in_err-put.ensures.0 (gathers-put_part _ _ _ _ _ _ c.loop-i.invariant.so_far (text-so_far c.as_slice-entries.result.now c.loop-i.i (omega arith)) (rw (← c.as_slice.ensures) c.in_err-put.ensures.bytes)))
