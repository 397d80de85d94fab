use Rattle.std.proofs.Common.{◌≡◌, take}
use Rattle.qm_throttle.proofs.throttle.copy_names.Given as goal

abbrev pub invariant-loop-name : goal.invariant-loop-name
invariant-loop-name l = l.copied ≡ take l.name-index l.name-items
