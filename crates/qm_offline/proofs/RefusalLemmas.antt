-- Refusals for the faults of files.
use Rattle.std.proofs.Common.{◌≡◌, ◌≢◌, ℕ, List, refl}
use Rattle.qm_bind.specs.declared.fault.{BindFault.BindFault, BindRule.BindRule}
use Rattle.qm_bind.specs.declared.fault.BindRule.TheVariants as bind
use Rattle.qapi_rules.specs.declared.fault.{CheckFault.CheckFault, CheckRule.CheckRule}
use Rattle.qapi_rules.specs.declared.fault.CheckRule.TheVariants.{Memory}
use Rattle.qm_offline.specs.{Refusals.bind_refusal, Refusals.check_refusal, declared.refusal.Refusal.TheVariants.Bind, declared.refusal.Refusal.TheVariants.Check}

pub check_refused : (rule : CheckRule) (fault : CheckFault) → rule ≢ Memory → Check fault ≡ check_refusal rule fault
check_refused Memory fault other = absurd (other refl)
check_refused rule fault other = refl

pub bind_refused : (rule : BindRule) (name : List ℕ) (fault : BindFault) → rule ≢ bind.Memory → Bind name fault ≡ bind_refusal rule name fault
bind_refused bind.Memory name fault other = absurd (other refl)
bind_refused rule name fault other = refl
