use Rattle.std.proofs.Common.{◌≡◌, drop}
use Rattle.qm_json.specs.Cleanness.{are_distinct}
use Rattle.qm_plan.specs.Stores.{names_of}
use Rattle.qm_bind.proofs.named.distinct_cells.Given as goal

abbrev pub invariant-loop-i : goal.invariant-loop-i
invariant-loop-i l = are_distinct (names_of l.cells) ≡ are_distinct (names_of (drop l.i l.cells))
