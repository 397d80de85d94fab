use Rattle.std.proofs.Common.{◌≡◌}
use Rattle.qapi_define.specs.Conditions.{holds}
use Rattle.qapi_define.specs.Frames.{answer, left_in}
use Rattle.qapi_define.proofs.conditions.holds.Given as goal

-- what is still to be done leads to whether the condition holds
abbrev pub invariant-turn : goal.invariant-turn
invariant-turn l = answer l.defines l.frames.items l.value ≡ holds l.defines l.condition

abbrev pub decreases-turn : goal.decreases-turn
decreases-turn l = left_in l.frames.items
