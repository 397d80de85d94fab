use Rattle.std.proofs.Common.{◌≡◌, ◌||◌}
use Rattle.std.specs.{BTreeSet.contains, List.Sorted.IsStrictlySortedBy}
use Rattle.qm_throttle.specs.{Deadlines.due_order, Deadlines.key_comes, Keys.key_order, Keys.Key}
use Rattle.qm_throttle.proofs.deadlines.come_keys.Given as goal

abbrev pub invariant-loop-due : goal.invariant-loop-due
invariant-loop-due l = record {
  keys : (k : Key) → key_comes l.moment l.deadlines.keys k ≡ (contains key_order l.keys k || key_comes l.moment l.due-iterator k);
  sorted : IsStrictlySortedBy due_order l.due-iterator;
}
