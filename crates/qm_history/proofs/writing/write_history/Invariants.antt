use Rattle.std.proofs.Common.{◌≡◌, take}
use Rattle.qm_core.specs.Texts.{text_of}
use Rattle.qm_history.specs.Gathering.{Gathers}
use Rattle.qm_history.proofs.writing.write_history.Given as goal

-- the text of the entries so far was put or is gathered, and no call failed
abbrev pub invariant-loop-i : goal.invariant-loop-i
invariant-loop-i g l = record {
  so_far : Gathers (g.S.Sink.contents l.fn.sink) (g.S.Sink.contents l.sink) l.text (text_of (take l.i l.entries));
  kept : g.S.Sink.faults l.sink ≡ g.S.Sink.faults l.fn.sink;
}
