use Rattle.std.proofs.Common.{◌≡◌, ◌++◌, take, map}
use Rattle.qm_json.specs.Printing.{joined}
use Rattle.qm_throttle.specs.Keys.{value_text}
use Rattle.qm_throttle.proofs.keys.write_values.Given as goal

abbrev pub invariant-loop-i : goal.invariant-loop-i
invariant-loop-i l = l.out ≡ l.fn.out ++ joined (map (value_text l.payload) (take l.i l.names))
