use Rattle.std.proofs.Common.{◌≡◌, drop}
use Rattle.qm_json.specs.Cleanness.{are_distinct}
use Rattle.qm_bind.proofs.named.distinct_texts.Given as goal

abbrev pub invariant-loop-i : goal.invariant-loop-i
invariant-loop-i l = are_distinct l.texts ≡ are_distinct (drop l.i l.texts)
