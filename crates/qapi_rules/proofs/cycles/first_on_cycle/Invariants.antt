use Rattle.std.proofs.Common.{◌≡◌, [], take, drop}
use Rattle.qapi_rules.specs.Blames.{over}
use Rattle.qapi_rules.specs.Cycles.{cycle_fault}
use Rattle.qapi_rules.proofs.cycles.first_on_cycle.Given as goal

abbrev pub invariant-loop-place : goal.invariant-loop-place
invariant-loop-place l = over (cycle_fault l.graph) [] l.definitions ≡ over (cycle_fault l.graph) (take l.place l.definitions) (drop l.place l.definitions)
