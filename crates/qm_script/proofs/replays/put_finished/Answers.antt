use Rattle.std.proofs.Common.{rules, ap, ◌∙◌, Option, Err}
use Rattle.qm_history.specs.declared.writing.HistoryFault.{HistoryFault}
use Rattle.qm_script.specs.{Endings.end_of, Plays.sunk}
use Rattle.qm_script.specs.declared.endings.Refused.{Refused}
use Rattle.qm_script.proofs.PlayLemmas.{plays_whole, plays_fault}
use Rattle.qm_script.proofs.replays.put_finished.Goals as goal

pub returns-in-Ok : goal.returns-in-Ok
returns-in-Ok g c =
    λ ended fine.
    plays_whole ended (sunk g.S.Sink.contents g.S.Sink.faults c.args.sink.now c.put_transcript.new.sink) c.end_of.result
    (c.end_of.ensures ∙ ap (λ (r : Option Refused). end_of r) fine.told)
    (rw (c.journal.ensures, fine.journal, fine.told) at c.in-Ok.ensures.text)
    (search (rules, c.in-Ok.ensures.kept))

pub returns-in-Err-SinkFault : goal.returns-in-Err-SinkFault
returns-in-Err-SinkFault g c =
    λ ended fine.
    plays_fault ended (sunk g.S.Sink.contents g.S.Sink.faults c.args.sink.now c.put_transcript.new.sink)
    (rw (c.journal.ensures, fine.journal, fine.told) at c.in-Err-SinkFault.ensures.text)
    (c.in-Err-SinkFault.ensures.failed (ap (λ (f : HistoryFault). Err f) c.in-Err-SinkFault.field-0-is))
