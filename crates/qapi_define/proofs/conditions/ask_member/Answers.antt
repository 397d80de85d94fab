use Rattle.std.proofs.Common.{Bool, IfOk, subst, sym, ◌∙◌}
use Rattle.qapi_define.specs.Frames.{Leaves}
use Rattle.qapi_define.proofs.ConditionLaws.{all_chosen, any_chosen}
use Rattle.qapi_define.proofs.conditions.ask_member.Goals as goal

pub returns-then-has_key-clause-value : goal.returns-then-has_key-clause-value
returns-then-has_key-clause-value c = subst (λ (v : Bool). IfOk c.go_on_with_all.result (λ b. Leaves c.args.defines.now c.go_on_with_all.new.frames.items b c.args.frames.now.items v)) (all_chosen c.args.defines.now c.args.member.now c.conditions.result.now (sym c.has_key.ensures ∙ c.if-has_key.true) (c.conditions.ensures.truth c.args.defines.now)) c.go_on_with_all.ensures.value

pub returns-then-has_key-2-clause-value : goal.returns-then-has_key-2-clause-value
returns-then-has_key-2-clause-value c = subst (λ (v : Bool). IfOk c.go_on_with_any.result (λ b. Leaves c.args.defines.now c.go_on_with_any.new.frames.items b c.args.frames.now.items v)) (any_chosen c.args.defines.now c.args.member.now c.conditions-then-has_key-2.result.now (sym c.has_key.ensures ∙ c.if-has_key.false) (sym c.has_key-2.ensures ∙ c.if-has_key-2.true) (c.conditions-then-has_key-2.ensures.truth c.args.defines.now)) c.go_on_with_any.ensures.value
