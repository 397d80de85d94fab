use Rattle.std.proofs.Common.{◌≡◌, ◌++◌}
use Rattle.std.specs.List.{flat_map}
use Rattle.qm_throttle.specs.Deadlines.{next_at}
use Rattle.qm_throttle.proofs.windows.Windows.nexts.Given as goal

abbrev pub invariant-loop-key : goal.invariant-loop-key
invariant-loop-key l = flat_map (next_at l.moment l.self) l.ended.keys ≡ l.nexts.items ++ flat_map (next_at l.moment l.self) l.key-iterator
