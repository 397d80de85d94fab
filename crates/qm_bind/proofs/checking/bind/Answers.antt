use Rattle.std.proofs.Common.{◌≡◌, ◌∙◌, Err, ap}
use Rattle.qm_read.specs.declared.fault.JsonFault.{TheVariants.Memory}
use Rattle.qm_bind.proofs.BoundLaws.{result-cells, result-tallies}
use Rattle.qm_bind.proofs.GoodLaws.{result-good}
use Rattle.qm_bind.proofs.OutcomeLaws.{of-fault, of-value}
use Rattle.qm_bind.proofs.checking.bind.Goals as goal

pub returns-in-Ok-clause-value : goal.returns-in-Ok-clause-value
returns-in-Ok-clause-value c h = c.bind_value.ensures h ∙ of-value c.args.schema.now c.args.text.now c.in-Ok.value (c.in-Ok.ensures.value (λ e. cc))

pub returns-in-Err-clause-value : goal.returns-in-Err-clause-value
returns-in-Err-clause-value c h =
    let differs : c.in-Err.fault ≡ Memory → ⊥ = λ e. h (ap Err (c.text_fault.ensures.memory e)) in
    ap Err (c.text_fault.ensures.told differs) ∙ of-fault c.args.schema.now c.args.text.now c.in-Err.fault (c.in-Err.ensures.value (λ q. let e : c.in-Err.fault ≡ Memory = cc in differs e))

pub returns-in-Ok-clause-cells : goal.returns-in-Ok-clause-cells
returns-in-Ok-clause-cells c = result-cells c.args.schema.now c.args.text.now c.bind_value.result (λ h. c.bind_value.ensures h ∙ of-value c.args.schema.now c.args.text.now c.in-Ok.value (c.in-Ok.ensures.value (λ e. cc)))

pub returns-in-Ok-clause-tallies : goal.returns-in-Ok-clause-tallies
returns-in-Ok-clause-tallies c = result-tallies c.args.schema.now c.args.text.now c.bind_value.result (λ h. c.bind_value.ensures h ∙ of-value c.args.schema.now c.args.text.now c.in-Ok.value (c.in-Ok.ensures.value (λ e. cc)))

pub returns-in-Ok-clause-good : goal.returns-in-Ok-clause-good
returns-in-Ok-clause-good c = result-good c.args.schema.now c.args.text.now c.bind_value.result (λ h. c.bind_value.ensures h ∙ of-value c.args.schema.now c.args.text.now c.in-Ok.value (c.in-Ok.ensures.value (λ e. cc)))
