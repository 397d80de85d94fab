use Rattle.std.proofs.Common.{◌≡◌, ◌<◌, ℕ, true, false}
use Rattle.qapi_types.specs.{Chains.marked, Sets.has_member_in, Types.kind_of}
use Rattle.qapi_types.proofs.choices.meets_marked.Given as goal

abbrev pub invariant-loop-number : goal.invariant-loop-number
invariant-loop-number l = (b : ℕ) → b < l.number → marked l.marks b ≡ true → has_member_in l.set (kind_of l.kinds b) ≡ false
