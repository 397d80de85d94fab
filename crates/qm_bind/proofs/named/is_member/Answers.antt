use Rattle.std.proofs.Common.{◌∙◌, sym, bytes_eq}
use Rattle.qapi_types.proofs.NameLemmas.{list_any-map}
use Rattle.qm_json.specs.declared.value.Member.{Member}
use Rattle.qm_bind.proofs.named.is_member.Goals as goal

pub returns : goal.returns
returns c = c.has_member.ensures ∙ sym (list_any-map (λ (x : Member). x.name) (λ other. bytes_eq other c.args.name.now) c.args.members.now)
