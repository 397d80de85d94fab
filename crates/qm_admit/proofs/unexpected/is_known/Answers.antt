use Rattle.std.proofs.Common.{◌∙◌, ◌-◌, ap, arith, length, Option, ℕ}
use Rattle.qm_admit.specs.Misfits.{is_known, choices_from}
use Rattle.qm_admit.specs.Walks.{inners, chosen_types}
use Rattle.qm_admit.proofs.Steps.{known-next}
use Rattle.qm_admit.proofs.unexpected.is_known.Goals as goal

pub loop-turn-preserved : goal.loop-turn-preserved
loop-turn-preserved c = (
  c.chosen-next.ensures.within,
  known-next c.args.schema.now.kinds c.args.given.now (length c.args.schema.now.kinds) c.loop-turn.turn c.in-Some.own c.chosen-next.result c.args.name.now (is_known c.args.schema.now.kinds (chosen_types c.args.schema.now.kinds c.args.given.now c.args.type_id) c.args.name.now) (omega arith) c.chosen-next.ensures.value
      (c.loop-turn.invariant.1 ∙ ap (λ (o : Option ℕ). is_known c.args.schema.now.kinds (choices_from (length c.args.schema.now.kinds - c.loop-turn.turn) c.args.schema.now.kinds (inners c.args.schema.now.kinds c.args.given.now) o) c.args.name.now) c.in-Some.is)
      c.is_member.result c.is_member.ensures c.if-is_member.false,
)
