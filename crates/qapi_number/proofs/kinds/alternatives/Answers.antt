use Rattle.std.proofs.Common.{ℕ, [], ◌∷◌, ◌++◌, arith, take, ap, ◌∙◌}
use Rattle.qapi_define.specs.declared.definition.Variant.{Variant}
use Rattle.qapi_number.specs.Numbering.{type_number}
use Rattle.qapi_number.proofs.EnumerateLaws.{mapped, take_item}
use Rattle.qapi_number.proofs.kinds.alternatives.Goals as goal

pub loop-variant-preserved : goal.loop-variant-preserved
loop-variant-preserved c = mapped (λ (v : Variant). type_number c.args.numbering.now v.of) (take c.loop-variant.variant-index c.args.variants.now) _ c.variant-item.result _ _ (take_item c.args.variants.now c.loop-variant.variant-index c.variant-item.result (omega arith) c.variant-item.is) c.loop-variant.invariant (c.in_ok-push.ensures.ok ∙ ap (λ (x : ℕ). c.loop-variant.list ++ x ∷ []) c.in_ok-type_number.ensures)
