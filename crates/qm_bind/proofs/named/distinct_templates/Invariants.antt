use Rattle.std.proofs.Common.{◌≡◌, drop}
use Rattle.qm_json.specs.Cleanness.{are_distinct}
use Rattle.qm_bind.specs.Walks.{template_names}
use Rattle.qm_bind.proofs.named.distinct_templates.Given as goal

abbrev pub invariant-loop-i : goal.invariant-loop-i
invariant-loop-i l = are_distinct (template_names l.members) ≡ are_distinct (template_names (drop l.i l.members))
