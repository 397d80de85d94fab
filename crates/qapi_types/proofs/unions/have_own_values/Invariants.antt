use Rattle.std.proofs.Common.{take}
use Rattle.qapi_types.proofs.PairLaws.{HasValues}
use Rattle.qapi_types.proofs.unions.have_own_values.Given as goal

abbrev pub invariant-loop-branch : goal.invariant-loop-branch
invariant-loop-branch l = HasValues l.values (take l.branch-index l.branches)
