use Rattle.std.proofs.Common.{◌∙◌, sym, bytes_eq}
use Rattle.qapi_types.proofs.NameLemmas.{list_any-map}
use Rattle.qm_plan.specs.declared.templates.TemplateMember.{TemplateMember}
use Rattle.qm_bind.proofs.named.is_template.Goals as goal

pub returns : goal.returns
returns c = c.is_one_template.ensures ∙ sym (list_any-map (λ (x : TemplateMember). x.name) (λ other. bytes_eq other c.args.name.now) c.args.members.now)
