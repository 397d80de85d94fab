use Rattle.std.proofs.Common.{◌≡◌, ◌<◌, ◌-◌, length, IfSome}
use Rattle.qm_admit.specs.Misfits.{is_known, choices_from}
use Rattle.qm_admit.specs.Walks.{inners, chosen_types}
use Rattle.qm_admit.proofs.unexpected.is_known.Given as goal

abbrev pub invariant-loop-turn : goal.invariant-loop-turn
invariant-loop-turn l = IfSome l.next (λ t. t < length l.schema.kinds) × (is_known l.schema.kinds (chosen_types l.schema.kinds l.given l.type_id) l.name ≡ is_known l.schema.kinds (choices_from (length l.schema.kinds - l.turn) l.schema.kinds (inners l.schema.kinds l.given) l.next) l.name)
