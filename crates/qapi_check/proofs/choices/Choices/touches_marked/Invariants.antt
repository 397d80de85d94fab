use Rattle.std.proofs.Common.{◌≡◌, ◌<◌, ℕ, true}
use Rattle.qapi_types.specs.{Chains.marked, Goodness.choices_of}
use Rattle.qapi_check.specs.Walking.{Touches}
use Rattle.qapi_check.proofs.choices.Choices.touches_marked.Given as goal

abbrev pub invariant-loop-number : goal.invariant-loop-number
invariant-loop-number l = (b : ℕ) → b < l.number → marked l.marks b ≡ true → Touches (choices_of l.self) l.seen b → ⊥
