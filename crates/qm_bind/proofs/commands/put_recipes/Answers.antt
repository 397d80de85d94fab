use Rattle.std.proofs.Common.{◌≡◌, ◌∙◌, Ok, None, ap, sym, arith, option_map}
use Rattle.qm_bind.specs.Walks.{file_in, told}
use Rattle.qm_bind.proofs.PlaceLaws.{none-of, placed-more}
use Rattle.qm_bind.proofs.commands.put_recipes.Goals as goal

pub loop-member-preserved : goal.loop-member-preserved
loop-member-preserved c =
    let none : c.in_ok-blame.blame ≡ None = none-of c.in_ok-blame.blame (sym c.is_some.ensures ∙ c.if-is_some.false) in
    placed-more c.args.context.now.schema.now (file_in c.args.context.now) c.args.members.now c.loop-member.member-index c.member-item.result c.loop-member.recipes.items c.put_recipe.new.recipes.items c.requires.apart c.requires.distinct (omega arith) c.member-item.is
    (ap (option_map told) (sym none) ∙ c.in_ok-blame.ensures.blame)
    (c.put_recipe.ensures.put (c.in_ok-blame.was ∙ ap Ok none))
    c.loop-member.invariant
