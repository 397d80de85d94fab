use Rattle.std.proofs.Common.{[], ◌∷◌, ◌++◌, arith, take, ap, ◌∙◌}
use Rattle.qapi_types.specs.declared.kind.Branch.{Branch}
use Rattle.qapi_number.specs.Kinds.{branch_def}
use Rattle.qapi_number.proofs.EnumerateLaws.{mapped, take_item}
use Rattle.qapi_number.proofs.unions.branches.Goals as goal

pub loop-variant-preserved : goal.loop-variant-preserved
loop-variant-preserved c = mapped (branch_def c.args.numbering.now c.args.names.now) (take c.loop-variant.variant-index c.args.variants.now) _ c.variant-item.result _ _ (take_item c.args.variants.now c.loop-variant.variant-index c.variant-item.result (omega arith) c.variant-item.is) c.loop-variant.invariant (c.in_ok-push.ensures.ok ∙ ap (λ (x : Branch). c.loop-variant.list ++ x ∷ []) c.in_ok-branch_def.ensures)
