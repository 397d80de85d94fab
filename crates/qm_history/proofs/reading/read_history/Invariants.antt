use Rattle.std.proofs.Common.{◌+◌, ◌-◌, ◌≤◌, length}
use Rattle.qm_history.specs.Readings.{ReadsTo}
use Rattle.qm_history.proofs.reading.read_history.Given as goal

-- the lines before the place led to what was read
abbrev pub invariant-loop-place : goal.invariant-loop-place
invariant-loop-place l = record {
  within : l.place ≤ length l.text;
  few : l.lines ≤ l.place;
  so_far : ReadsTo l.text l.place (l.lines + 1) l.reading;
}

abbrev pub decreases-loop-place : goal.decreases-loop-place
decreases-loop-place l = length l.text - l.place
