use Rattle.std.proofs.Common.{◌<◌, ℕ}
use Rattle.qapi_types.specs.{Chains.Leads, Choices.IsFaulty, Goodness.choices_of}
use Rattle.qapi_types.proofs.choices.choices_are_good.Given as goal

abbrev pub invariant-loop-number : goal.invariant-loop-number
invariant-loop-number l = (a : ℕ) → a < l.number → (Leads (choices_of l.kinds).branches a a → ⊥) × (IsFaulty (choices_of l.kinds) a → ⊥)
