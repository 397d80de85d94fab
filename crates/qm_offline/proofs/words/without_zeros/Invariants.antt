use Rattle.std.proofs.Common.{◌≡◌, length}
use Rattle.qm_offline.specs.Words.{without_zeros}
use Rattle.qm_offline.proofs.words.without_zeros.Given as goal

-- what is left means what the word means
abbrev pub invariant-loop-rest : goal.invariant-loop-rest
invariant-loop-rest l = without_zeros l.rest ≡ without_zeros l.fn.word

abbrev pub decreases-loop-rest : goal.decreases-loop-rest
decreases-loop-rest l = length l.rest
