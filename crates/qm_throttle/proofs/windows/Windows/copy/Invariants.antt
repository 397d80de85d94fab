use Rattle.std.proofs.Common.{◌≡◌, ◌++◌}
use Rattle.std.specs.{List.Sorted.IsStrictlySortedBy, Map.keys_of}
use Rattle.qm_throttle.specs.{Deadlines.Lasts, Keys.key_order, Steps.window_at, Keys.Key}
use Rattle.qm_throttle.proofs.windows.Windows.copy.Given as goal

abbrev pub invariant-loop-key : goal.invariant-loop-key
invariant-loop-key l = record {
  copied : l.self ≡ l.copied ++ l.key-iterator;
  sorted : IsStrictlySortedBy key_order (keys_of l.self);
  lasting : (k : Key) → Lasts (window_at k l.self);
}
