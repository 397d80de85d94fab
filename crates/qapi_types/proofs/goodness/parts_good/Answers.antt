use Rattle.std.proofs.Common.{sym, subst}
use Rattle.std.specs.List.{All}
use Rattle.qapi_types.specs.Goodness.{HasBranches}
use Rattle.qapi_types.proofs.GoodLaws.{lacks, misplaced, inside, decided}
use Rattle.qapi_types.proofs.goodness.parts_good.Goals as goal

pub returns-then-not-are_placed : goal.returns-then-not-are_placed
returns-then-not-are_placed c = misplaced c.args.parts.now c.as_slice.result.now c.as_slice-2.result.now c.are_placed.result c.as_slice.ensures c.as_slice-2.ensures c.are_placed.ensures c.if-not-are_placed.true

pub returns-then-not-branch-3 : goal.returns-then-not-branch-3
returns-then-not-branch-3 c = lacks c.in_ok-have_branches.field-0 c.in_ok-have_branches.ensures c.if-not-branch-3.true (λ g. subst (λ ks. All (HasBranches ks) ks) (sym c.as_slice-kinds.ensures) g.branches)

pub choices_are_good-requires : goal.choices_are_good-requires
choices_are_good-requires c = inside c.args.parts.now c.as_slice-kinds.result.now c.as_slice-kinds.ensures (c.is_in_range.ensures.0 c.if-not-is_in_range.false)

pub returns : goal.returns
returns c =
    decided c.args.parts.now c.as_slice-kinds.result.now c.as_slice.result.now c.as_slice-2.result.now c.choices_are_good.result c.as_slice-kinds.ensures c.as_slice.ensures c.as_slice-2.ensures
    (c.is_counted.ensures.0 c.if-not-is_counted.false)
    (c.is_in_range.ensures.0 c.if-not-is_in_range.false)
    (c.have_tags.ensures.0 c.if-not-have_tags.false)
    (c.have_plain_elements.ensures.0 c.if-not-have_plain_elements.false)
    (c.have_apart_alternatives.ensures.0 c.if-not-have_apart_alternatives.false)
    (c.are_placed.ensures.0 c.if-not-are_placed.false)
    (c.in_ok-have_apart_names.ensures.0 c.if-not-branch.false)
    (c.in_ok-have_apart_values.ensures.0 c.if-not-branch-2.false)
    (c.in_ok-have_branches.ensures.0 c.if-not-branch-3.false)
    c.choices_are_good.ensures
