use Rattle.qapi_types.specs.Goodness.{choices_of}
use Rattle.qapi_check.specs.Walking.{IsOnTheWay}
use Rattle.qapi_check.proofs.choices.Choices.clash.Given as goal

abbrev pub invariant-loop-turn : goal.invariant-loop-turn
invariant-loop-turn l = IsOnTheWay (choices_of l.self-inside.kinds.now) l.fn.from l.turn l.seen l.number
