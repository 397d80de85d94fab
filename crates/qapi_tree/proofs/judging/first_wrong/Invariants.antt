use Rattle.std.proofs.Common.{◌≡◌, drop}
use Rattle.qapi_tree.specs.Judging.{first_wrong}
use Rattle.qapi_tree.proofs.judging.first_wrong.Given as goal

abbrev pub invariant-loop-member : goal.invariant-loop-member
invariant-loop-member l = first_wrong l.form (drop l.member-index l.members) ≡ first_wrong l.form l.members
