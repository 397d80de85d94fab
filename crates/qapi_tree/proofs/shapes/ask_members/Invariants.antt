use Rattle.std.proofs.Common.{◌≡◌, ◌+◌, ◌≤◌, ◌&&◌, drop}
use Rattle.qapi_tree.specs.Asking.{are_shaped, members_fit, values_count, left_in}
use Rattle.qapi_tree.proofs.shapes.ask_members.Given as goal

-- what is left to ask, with what is asked
abbrev pub invariant-loop-member : goal.invariant-loop-member
invariant-loop-member l = record {
  shapes : (members_fit l.form (drop l.member-index l.members) && are_shaped l.pending.items) ≡ (members_fit l.form l.members && are_shaped l.fn.pending.items);
  left : left_in l.pending.items + values_count (drop l.member-index l.members) ≤ left_in l.fn.pending.items + values_count l.members;
}
