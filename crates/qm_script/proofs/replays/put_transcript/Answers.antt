use Rattle.std.proofs.Common.{length}
use Rattle.qm_core.specs.Texts.{text_of}
use Rattle.qm_script.specs.Endings.{closing_of}
use Rattle.qm_script.proofs.PutLemmas.{puts_after}
use Rattle.qm_script.proofs.replays.put_transcript.Goals as goal

pub returns-in-Ok-clause-text : goal.returns-in-Ok-clause-text
returns-in-Ok-clause-text g c =
    let entries = c.args.journal.now.items in
    puts_after (g.S.Sink.contents c.args.sink.now) (g.S.Sink.contents c.write_history.new.sink) (g.S.Sink.contents c.put_closing.new.sink)
    (text_of entries) (closing_of c.args.refused (length entries)) c.put_closing.result c.in-Ok.ensures.text (rw c.len.ensures at c.put_closing.ensures.text)
