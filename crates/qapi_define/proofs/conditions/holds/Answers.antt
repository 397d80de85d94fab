use Rattle.std.proofs.Common.{ap, sym, ◌∙◌}
use Rattle.qapi_define.specs.Frames.{answer}
use Rattle.qapi_define.proofs.ConditionLaws.{answer_more}
use Rattle.qapi_define.proofs.conditions.holds.Goals as goal

pub turn-preserved : goal.turn-preserved
turn-preserved c = c.in_ok-value.ensures.value ∙ sym (answer_more c.args.defines.now c.pop.new.self.items c.in-Some.frame c.turn.value) ∙ ap (λ l. answer c.args.defines.now l c.turn.value) (sym c.in-Some.ensures.items) ∙ c.turn.invariant
