use Rattle.std.proofs.Common.{◌≡◌}
use Rattle.qapi_tree.specs.{Asking.are_shaped, Asking.left_in, Shapes.has_shape}
use Rattle.qapi_tree.proofs.shapes.is_of_shape.Given as goal

-- what is asked is whether the value has the shape
abbrev pub invariant-turn : goal.invariant-turn
invariant-turn l = are_shaped l.pending.items ≡ has_shape l.tree l.fn.shape

abbrev pub decreases-turn : goal.decreases-turn
decreases-turn l = left_in l.pending.items
