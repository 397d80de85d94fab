use Rattle.std.proofs.Common.{◌≡◌, drop}
use Rattle.qapi_tree.specs.Judging.{first_fault}
use Rattle.qapi_tree.proofs.judging.first_fault.Given as goal

abbrev pub invariant-loop-expr : goal.invariant-loop-expr
invariant-loop-expr l = first_fault (drop l.expr-index l.exprs) ≡ first_fault l.exprs
