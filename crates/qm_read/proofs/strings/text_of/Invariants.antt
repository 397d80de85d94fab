use Rattle.std.proofs.Common.{◌+◌, ◌-◌, length}
use Rattle.qm_read.specs.{Progress.decoded_from, Strings.text_of}
use Rattle.qm_read.proofs.Advancing.{IsLeft}
use Rattle.qm_read.proofs.strings.text_of.Given as goal

-- what was decoded, followed by what the rest stands for, is what the whole stands for
abbrev pub invariant-loop-i : goal.invariant-loop-i
invariant-loop-i l = IsLeft decoded_from (text_of l.start l.raw) l.raw l.out (l.start + 1 + l.i) l.i

abbrev pub decreases-loop-i : goal.decreases-loop-i
decreases-loop-i l = length l.raw - l.i
