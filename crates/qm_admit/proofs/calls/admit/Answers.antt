use Rattle.std.proofs.Common.{rules, ◌≡◌, sym, subst, ◌↔◌}
use Rattle.qm_admit.specs.{Fitting.Fits, declared.verdict.Verdict.Verdict, declared.verdict.Verdict.TheVariants.Yes}
use Rattle.qm_admit.proofs.FitLaws.{yes-iff_fits}
use Rattle.qm_admit.proofs.calls.admit.Goals as goal

pub returns-clause-fits : goal.returns-clause-fits
returns-clause-fits c clean =
    subst (λ (v : Verdict). (v ≡ Yes) ↔ Fits c.args.schema.now.kinds c.args.type_id c.args.value.now) (sym (search rules))
    (yes-iff_fits c.args.schema.now c.parts-parts.ensures.good c.args.type_id c.args.value.now clean)
