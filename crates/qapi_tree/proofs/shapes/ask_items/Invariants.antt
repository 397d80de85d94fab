use Rattle.std.proofs.Common.{◌≡◌, ◌+◌, ◌&&◌, drop}
use Rattle.qapi_tree.specs.Asking.{are_shaped, items_have, items_count, left_in}
use Rattle.qapi_tree.proofs.shapes.ask_items.Given as goal

-- what is left to ask, with what is asked
abbrev pub invariant-loop-item : goal.invariant-loop-item
invariant-loop-item l = record {
  shapes : (items_have l.shape (drop l.item-index l.items) && are_shaped l.pending.items) ≡ (items_have l.shape l.items && are_shaped l.fn.pending.items);
  left : left_in l.pending.items + items_count (drop l.item-index l.items) ≡ left_in l.fn.pending.items + items_count l.items;
}
