use Rattle.std.proofs.Common.{Bool, IfOk, subst}
use Rattle.qapi_define.specs.Frames.{Leaves}
use Rattle.qapi_define.proofs.ConditionLaws.{chosen_in}
use Rattle.qapi_define.proofs.conditions.ask.Goals as goal

pub returns-in-Dict-clause-value : goal.returns-in-Dict-clause-value
returns-in-Dict-clause-value c = subst (λ (v : Bool). IfOk c.ask_first.result (λ b. Leaves c.args.defines.now c.ask_first.new.frames.items b c.args.frames.now.items v)) (chosen_in c.args.defines.now c.args.tree.now c.in-Dict.members c.as_slice.result.now c.in-Dict.is c.as_slice.ensures) c.ask_first.ensures.value
