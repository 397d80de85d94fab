use Rattle.std.proofs.Common.{◌≡◌, ◌++◌, take}
use Rattle.qm_bind.specs.Walks.{marked_from}
use Rattle.qm_bind.proofs.arguments.with_marked.Given as goal

abbrev pub invariant-loop-number : goal.invariant-loop-number
invariant-loop-number l = l.types ≡ l.fn.types ++ marked_from 0 (take l.number l.marks)
