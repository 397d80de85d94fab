use Rattle.std.proofs.Common.{◌≡◌, ◌∙◌, Err, sym}
use Rattle.std.proofs.lemmas.Result.{IfOk-weaker}
use Rattle.qm_bind.specs.Bindings.{binding_of, bound_of, no_memory, unless}
use Rattle.qm_bind.specs.Faults.{file_fault}
use Rattle.qm_bind.specs.Walks.{seen_outcome, seen_parts}
use Rattle.qm_bind.proofs.CleanParts.{commands-distinct}
use Rattle.qm_bind.proofs.OutcomeLaws.{answer-is, of-parts}
use Rattle.qm_bind.proofs.checking.bind_value.Goals as goal

pub file_outcome-requires : goal.file_outcome-requires
file_outcome-requires c = commands-distinct c.args.value.now (seen_parts c.in-Some.file) c.requires (sym c.in-Some.ensures)

pub returns-in-Some : goal.returns-in-Some
returns-in-Some c h =
    answer-is seen_outcome c.file_outcome.result (Err no_memory) c.answer.result (binding_of c.args.schema.now c.args.value.now) c.answer.ensures.told c.answer.ensures.memory
    (IfOk-weaker c.file_outcome.result (λ o. seen_outcome o ≡ unless (file_fault c.args.schema.now (seen_parts c.in-Some.file)) (bound_of c.args.schema.now (seen_parts c.in-Some.file))) (λ o. seen_outcome o ≡ binding_of c.args.schema.now c.args.value.now)
    (λ o e. e ∙ of-parts c.args.schema.now c.args.value.now (seen_parts c.in-Some.file) c.in-Some.ensures) c.file_outcome.ensures)
    h
