use Rattle.std.proofs.Common.{◌≡◌, ◌++◌, length}
use Rattle.std.specs.List.{slice_split}
use Rattle.qm_offline.specs.Words.{is_comma}
use Rattle.qm_offline.proofs.defines.pieces.Given as goal

-- the names so far, and the pieces of the rest
abbrev pub invariant-loop-at : goal.invariant-loop-at
invariant-loop-at l = l.names ++ slice_split is_comma l.rest ≡ slice_split is_comma l.fn.text

abbrev pub decreases-loop-at : goal.decreases-loop-at
decreases-loop-at l = length l.rest
