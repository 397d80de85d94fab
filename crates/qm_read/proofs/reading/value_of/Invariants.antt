use Rattle.std.proofs.Common.{◌-◌, length}
use Rattle.qm_read.specs.{Faults.reading_within, Progress.reading_from}
use Rattle.qm_read.proofs.Advancing.{IsLeft}
use Rattle.qm_read.proofs.reading.value_of.Given as goal

-- what is left, from what was read, is the whole from the beginning
abbrev pub invariant-loop-place : goal.invariant-loop-place
invariant-loop-place l = IsLeft (reading_from l.limit) (reading_within l.limit l.text) l.text l.reader l.place l.place

abbrev pub decreases-loop-place : goal.decreases-loop-place
decreases-loop-place l = length l.text - l.place
