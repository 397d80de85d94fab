use Rattle.std.proofs.Common.{◌≡◌, ◌+◌, ◌*◌, false, take}
use Rattle.std.specs.List.{list_any}
use Rattle.qapi_types.specs.declared.kind.Branch.{Branch}
use Rattle.qm_bind.specs.Arguments.{may_have_within}
use Rattle.qm_bind.proofs.members.+have.Given as goal

abbrev pub decreases-has_within : goal.decreases-has_within
decreases-has_within l = 2 * l.steps

abbrev pub decreases-some_has : goal.decreases-some_has
decreases-some_has l = 2 * l.steps + 1

abbrev pub invariant-some_has-loop-branch : goal.invariant-some_has-loop-branch
invariant-some_has-loop-branch l = list_any (λ (b : Branch). may_have_within l.schema.kinds l.name l.steps b.type_id) (take l.branch-index l.branches) ≡ false
