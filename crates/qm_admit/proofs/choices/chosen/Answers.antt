use Rattle.std.proofs.Common.{◌<◌, ◌∙◌, sym, ap, subst, length, IfSome, Option, ℕ, List, option_copied}
use Rattle.std.specs.Option.{option_and_then}
use Rattle.qapi_types.specs.declared.kind.{Branch.Branch}
use Rattle.qapi_types.specs.Types.{branches_of, tag_member}
use Rattle.qm_admit.specs.Fitting.{text_in}
use Rattle.qm_admit.specs.Tags.{branch_at}
use Rattle.qm_admit.proofs.GoodParts.{tag-within, branch-within}
use Rattle.qm_admit.proofs.TagLaws.{chosen-at}
use Rattle.qm_admit.proofs.choices.chosen.Goals as goal

pub find_value-requires : goal.find_value-requires
find_value-requires c = tag-within c.args.schema.now c.parts-parts.ensures.good c.args.type_id c.requires c.in_ok-tag.tag.now (ap tag_member (sym c.kind-kind.ensures) ∙ sym c.tag_member.ensures ∙ ap option_copied c.in_ok-tag.was)

pub returns-in_err-value-clause-value : goal.returns-in_err-value-clause-value
returns-in_err-value-clause-value c = let e = chosen-at c.args.schema.now.kinds c.args.given.now c.args.type_id c.kind-kind.result.now c.in_ok-tag.tag.now c.in_ok-text.text.now c.find_value.result c.kind-kind.ensures (sym c.tag_member.ensures ∙ ap option_copied c.in_ok-tag.was) (ap (text_in c.args.given.now) (sym c.as_slice.ensures) ∙ sym c.text_in.ensures ∙ ap option_copied c.in_ok-text.was) c.find_value.ensures in
    c.from_residual-in_err-value.ensures ∙ sym (e ∙ ap (option_and_then (branch_at (branches_of c.kind-kind.result.now))) c.in_err-value.was)

pub returns-clause-value : goal.returns-clause-value
returns-clause-value c = let e = chosen-at c.args.schema.now.kinds c.args.given.now c.args.type_id c.kind-kind.result.now c.in_ok-tag.tag.now c.in_ok-text.text.now c.find_value.result c.kind-kind.ensures (sym c.tag_member.ensures ∙ ap option_copied c.in_ok-tag.was) (ap (text_in c.args.given.now) (sym c.as_slice.ensures) ∙ sym c.text_in.ensures ∙ ap option_copied c.in_ok-text.was) c.find_value.ensures in
    c.branch_at.ensures ∙ ap (λ (bs : List Branch). branch_at bs c.in_ok-value.value) c.branches.ensures ∙ sym (e ∙ ap (option_and_then (branch_at (branches_of c.kind-kind.result.now))) c.in_ok-value.was)

pub returns-clause-within : goal.returns-clause-within
returns-clause-within c = subst (λ (o : Option ℕ). IfSome o (λ b. b < length c.args.schema.now.kinds)) (sym (c.branch_at.ensures ∙ ap (λ (bs : List Branch). branch_at bs c.in_ok-value.value) (c.branches.ensures ∙ ap branches_of c.kind-kind.ensures)))
    (branch-within c.args.schema.now c.parts-parts.ensures.good c.args.type_id c.requires c.in_ok-value.value)
