use Rattle.std.proofs.Common.{ap, sym, ◌∙◌, map}
use Rattle.std.specs.List.{list_all}
use Rattle.qm_json.specs.declared.value.Member.{Member}
use Rattle.qm_json.specs.Cleanness.{are_distinct, is_clean, is_clean_member}
use Rattle.qm_json.proofs.CleanLaws.{is_clean-Arr, is_clean-Obj}
use Rattle.qm_bind.proofs.NamedLaws.{first-decides, second-decides}
use Rattle.qm_bind.proofs.cleanness.+clean.Goals as goal

pub is_clean-returns-in-Arr : goal.is_clean-returns-in-Arr
is_clean-returns-in-Arr t c = c.are_clean.ensures ∙ ap (list_all is_clean) c.as_slice-in-Arr.ensures ∙ sym (ap is_clean c.in-Arr.is ∙ is_clean-Arr _)

pub is_clean-returns-then-distinct_members : goal.is_clean-returns-then-distinct_members
is_clean-returns-then-distinct_members t c =
    second-decides c.distinct_members.result c.are_clean_members.result _ _ (is_clean c.args.value.now) c.if-distinct_members.true
    (c.distinct_members.ensures ∙ ap (λ ms. are_distinct (map (λ (m : Member). m.name) ms)) c.as_slice-in-Obj.ensures)
    (c.are_clean_members.ensures ∙ ap (list_all is_clean_member) c.as_slice-then-distinct_members.ensures)
    (ap is_clean c.in-Obj.is ∙ is_clean-Obj _)

pub is_clean-returns-else-distinct_members : goal.is_clean-returns-else-distinct_members
is_clean-returns-else-distinct_members t c =
    first-decides c.distinct_members.result _ _ (is_clean c.args.value.now) c.if-distinct_members.false
    (c.distinct_members.ensures ∙ ap (λ ms. are_distinct (map (λ (m : Member). m.name) ms)) c.as_slice-in-Obj.ensures)
    (ap is_clean c.in-Obj.is ∙ is_clean-Obj _)
