use Rattle.std.proofs.Common.{take, None}
use Rattle.qapi_types.specs.Goodness.{choices_of}
use Rattle.qapi_check.specs.Walking.{IsFirstTouching}
use Rattle.qapi_check.proofs.choices.Choices.first_touching.Given as goal

abbrev pub invariant-loop-number : goal.invariant-loop-number
invariant-loop-number l = IsFirstTouching (choices_of l.self) l.seen (take l.number-index l.types) None
