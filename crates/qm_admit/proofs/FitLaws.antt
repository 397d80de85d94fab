-- What fits is what has no fault.
use Rattle.std.proofs.Common.{◌≡◌, ◌↔◌, ℕ, Option, Some, None, refl, ap}
use Rattle.qm_json.specs.{declared.value.Json.Json, Cleanness.IsClean}
use Rattle.qapi_types.specs.{declared.parts.Parts.Parts, Goodness.IsGood}
use Rattle.qm_admit.specs.declared.verdict.Verdict.TheVariants.{Yes}
use Rattle.qm_admit.specs.{Fitting.Fits, Misfits.Misfit, Misfits.first_misfit, Misfits.verdict_of}
use Rattle.qm_admit.proofs.{Fitted.fit, Unfaulty.no-fault}

-- there is no fault in a value that fits, clean or not
pub none-if_fits : (p : Parts) → IsGood p → (t : ℕ) (v : Json) → Fits p.kinds t v → first_misfit p.kinds t v ≡ None
none-if_fits p good t v f = no-fault p.kinds good.cycles good.choices good.alternatives v t f

pub fits-if_none : (p : Parts) → IsGood p → (t : ℕ) (v : Json) → IsClean v → first_misfit p.kinds t v ≡ None → Fits p.kinds t v
fits-if_none p good t v clean h = fit p.kinds good.cycles v clean t h

told-none : (found : Option Misfit) → verdict_of found ≡ Yes → found ≡ None
told-none None h = refl
told-none (Some m) h = absurd cc

-- the same of the answer Yes
pub yes-iff_fits : (p : Parts) → IsGood p → (t : ℕ) (v : Json) → IsClean v → (verdict_of (first_misfit p.kinds t v) ≡ Yes) ↔ Fits p.kinds t v
yes-iff_fits p good t v clean = (λ h. fits-if_none p good t v clean (told-none (first_misfit p.kinds t v) h), λ f. ap verdict_of (none-if_fits p good t v f))
