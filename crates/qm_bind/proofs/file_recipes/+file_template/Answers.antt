use Rattle.std.proofs.Common.{ap, sym, ◌∙◌}
use Rattle.std.specs.List.{list_all}
use Rattle.qm_bind.specs.Goodness.{is_file_template}
use Rattle.qm_bind.specs.Walks.{is_file_member, scope_known}
use Rattle.qm_bind.proofs.FileTemplates.{file-Array, file-Object}
use Rattle.qm_bind.proofs.file_recipes.+file_template.Goals as goal

pub is_template-returns-in-Object : goal.is_template-returns-in-Object
is_template-returns-in-Object t c =
    c.are_members.ensures ∙ ap (list_all (is_file_member (scope_known c.args.known.now))) c.as_slice-in-Object.ensures ∙ sym (ap (is_file_template (scope_known c.args.known.now)) c.in-Object.is ∙ file-Object (scope_known c.args.known.now) _)

pub is_template-returns-in-Array : goal.is_template-returns-in-Array
is_template-returns-in-Array t c =
    c.are_templates.ensures ∙ ap (list_all (is_file_template (scope_known c.args.known.now))) c.as_slice-in-Array.ensures ∙ sym (ap (is_file_template (scope_known c.args.known.now)) c.in-Array.is ∙ file-Array (scope_known c.args.known.now) _)
