use Rattle.std.proofs.Common.{◌≡◌, drop}
use Rattle.std.specs.Prelude.{not}
use Rattle.std.specs.List.{position_from}
use Rattle.qm_json.specs.declared.value.Member.{Member}
use Rattle.qm_admit.specs.Misfits.{is_known}
use Rattle.qm_admit.specs.Walks.{chosen_types}
use Rattle.qm_admit.proofs.unexpected.first_unknown.Given as goal

abbrev pub invariant-loop-i : goal.invariant-loop-i
invariant-loop-i l = position_from (λ (x : Member). not (is_known l.schema.kinds (chosen_types l.schema.kinds l.given l.type_id) x.name)) 0 l.given ≡ position_from (λ (x : Member). not (is_known l.schema.kinds (chosen_types l.schema.kinds l.given l.type_id) x.name)) l.i (drop l.i l.given)
