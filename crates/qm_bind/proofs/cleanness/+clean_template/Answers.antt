use Rattle.std.proofs.Common.{ap, sym, ◌∙◌, map}
use Rattle.std.specs.List.{list_all}
use Rattle.qm_json.specs.Cleanness.{are_distinct}
use Rattle.qm_plan.specs.declared.templates.TemplateMember.{TemplateMember}
use Rattle.qm_plan.specs.Cleanness.{is_clean_member, is_clean_template}
use Rattle.qm_plan.proofs.Inductions.{is_clean-Array, is_clean-Object}
use Rattle.qm_bind.proofs.NamedLaws.{first-decides, second-decides}
use Rattle.qm_bind.proofs.cleanness.+clean_template.Goals as goal

pub is_clean_template-returns-then-distinct_templates : goal.is_clean_template-returns-then-distinct_templates
is_clean_template-returns-then-distinct_templates t c =
    second-decides c.distinct_templates.result c.are_clean_named.result _ _ (is_clean_template c.args.template.now) c.if-distinct_templates.true
    (c.distinct_templates.ensures ∙ ap (λ ms. are_distinct (map (λ (m : TemplateMember). m.name) ms)) c.as_slice.ensures)
    (c.are_clean_named.ensures ∙ ap (list_all is_clean_member) c.as_slice-then-distinct_templates.ensures)
    (ap is_clean_template c.in-Object.is ∙ is_clean-Object _)

pub is_clean_template-returns-else-distinct_templates : goal.is_clean_template-returns-else-distinct_templates
is_clean_template-returns-else-distinct_templates t c =
    first-decides c.distinct_templates.result _ _ (is_clean_template c.args.template.now) c.if-distinct_templates.false
    (c.distinct_templates.ensures ∙ ap (λ ms. are_distinct (map (λ (m : TemplateMember). m.name) ms)) c.as_slice.ensures)
    (ap is_clean_template c.in-Object.is ∙ is_clean-Object _)

pub is_clean_template-returns-in-Array : goal.is_clean_template-returns-in-Array
is_clean_template-returns-in-Array t c = c.are_clean_templates.ensures ∙ ap (list_all is_clean_template) c.as_slice-in-Array.ensures ∙ sym (ap is_clean_template c.in-Array.is ∙ is_clean-Array _)
