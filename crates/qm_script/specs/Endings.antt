-- How the play of a script ends, and its closing line (this project's own rule).
use Rattle.std.specs.Prelude.{ℕ, List, ◌++◌, codes, Option, Some, None}
use Rattle.std.specs.Fmt.{decimal}
use Rattle.qm_core.specs.declared.entries.StepFault.{StepFault}
use Rattle.qm_core.specs.declared.entries.StepFault.TheVariants as fault
use Rattle.qm_script.specs.declared.endings.{PlayEnd.PlayEnd, Refused.Refused, StepWord.StepWord, Stop.Stop, Stop.TheVariants.BadLine, Stop.TheVariants.Step, Stop.TheVariants.SessionsFull, Stop.TheVariants.JournalFull}
use Rattle.qm_script.specs.declared.endings.PlayEnd.TheVariants as end
use Rattle.qm_script.specs.declared.endings.StepWord.TheVariants as word

-- why a line was refused, by the refusal of its step; want of memory is none of a step's refusals
abbrev pub stop_of : StepFault → Stop
stop_of fault.NoSession = Step word.NoSession
stop_of fault.Closed = Step word.Closed
stop_of fault.InputEnded = Step word.InputEnded
stop_of fault.OobOpen = Step word.OobOpen
stop_of fault.Busy = Step word.Busy
stop_of fault.Nothing = Step word.Nothing
stop_of fault.NotRunning = Step word.NotRunning
stop_of fault.NotOpen = Step word.NotOpen
stop_of fault.NotDrained = Step word.NotDrained
stop_of fault.WrongCause = Step word.WrongCause
stop_of fault.Stopping = Step word.Stopping
stop_of fault.SessionsFull = SessionsFull
stop_of fault.JournalFull = JournalFull
stop_of fault.Memory = BadLine

abbrev pub step_word_of : StepWord → List ℕ
step_word_of word.NoSession = codes "no-session"
step_word_of word.Closed = codes "closed"
step_word_of word.InputEnded = codes "input-ended"
step_word_of word.OobOpen = codes "oob-open"
step_word_of word.Busy = codes "busy"
step_word_of word.Nothing = codes "nothing"
step_word_of word.NotRunning = codes "not-running"
step_word_of word.NotOpen = codes "not-open"
step_word_of word.NotDrained = codes "not-drained"
step_word_of word.WrongCause = codes "wrong-cause"
step_word_of word.Stopping = codes "stopping"
step_word_of word.NoFrame = codes "no-frame"

abbrev pub stop_word_of : Stop → List ℕ
stop_word_of BadLine = codes "bad-line"
stop_word_of (Step word) = step_word_of word
stop_word_of SessionsFull = codes "sessions-full"
stop_word_of JournalFull = codes "journal-full"

-- the closing line, after so many entries
abbrev pub closing_of : Option Refused → ℕ → List ℕ
closing_of None entries = codes "end " ++ decimal entries ++ codes "\n"
closing_of (Some refused) entries = codes "error: script line " ++ decimal refused.line ++ codes ": " ++ stop_word_of refused.stop ++ codes "\n"

abbrev pub stop_end_of : ℕ → Stop → PlayEnd
stop_end_of line BadLine = end.BadLine line
stop_end_of line (Step word) = end.WrongStep line word
stop_end_of line SessionsFull = end.Full line
stop_end_of line JournalFull = end.Full line

-- how the play ended, where neither the sink failed nor memory was wanting
abbrev pub end_of : Option Refused → PlayEnd
end_of None = end.Done
end_of (Some refused) = stop_end_of refused.line refused.stop
