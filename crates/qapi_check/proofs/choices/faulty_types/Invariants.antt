use Rattle.qapi_types.specs.Goodness.{choices_of}
use Rattle.qapi_check.specs.Walking.{MarkFaulty}
use Rattle.qapi_check.proofs.choices.faulty_types.Given as goal

abbrev pub invariant-loop-number : goal.invariant-loop-number
invariant-loop-number l = MarkFaulty (choices_of l.kinds) l.number l.marks.items
