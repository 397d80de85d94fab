use Rattle.std.proofs.Common.{rules, sym, subst, ◌<◌, length}
use Rattle.qapi_mask.proofs.StandingLaws.{element-below}
use Rattle.qapi_mask.proofs.BuildLaws.{base-entry}
use Rattle.qapi_mask.proofs.naming.inner.Goals as goal

pub returns-in-Some-clause-within : goal.returns-in-Some-clause-within
returns-in-Some-clause-within c =
    subst (λ x. x < length c.args.kinds.now) (sym c.entry.ensures)
    (base-entry c.args.kinds.now c.args.bases.now c.in-Some.element c.requires.bases (element-below c.args.kinds.now c.args.number c.in-Some.element c.requires.below c.requires.within (search rules)))
