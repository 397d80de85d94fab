-- The refusal of a command line for a fault of its files (this project's own rule).
use Rattle.std.specs.Prelude.{ℕ, List}
use Rattle.qapi_load.specs.declared.fault.{LoadFault.LoadFault, LoadRule.LoadRule}
use Rattle.qapi_load.specs.declared.fault.LoadRule.TheVariants as load
use Rattle.qapi_rules.specs.declared.fault.{CheckFault.CheckFault, CheckRule.CheckRule}
use Rattle.qapi_rules.specs.declared.fault.CheckRule.TheVariants as check
use Rattle.qapi_check.specs.declared.loading.SchemaFault.{SchemaFault}
use Rattle.qm_bind.specs.declared.fault.{BindFault.BindFault, BindRule.BindRule}
use Rattle.qm_bind.specs.declared.fault.BindRule.TheVariants as bind
use Rattle.qm_offline.specs.Output.{FileFault, InSchema, NoBind, InBind}
use Rattle.qm_offline.specs.declared.refusal.Refusal.{Refusal}
use Rattle.qapi_check.specs.declared.loading.SchemaFault.TheVariants.{Load, Check}
use Rattle.qm_offline.specs.declared.refusal.Refusal.TheVariants as refusal

-- a failed read and want of memory are no faults of the schema
abbrev pub load_refusal : LoadRule → LoadFault → Refusal
load_refusal load.ReadFault fault = refusal.Library fault.file
load_refusal load.Memory fault = refusal.Memory
load_refusal rule fault = refusal.Schema fault

abbrev pub check_refusal : CheckRule → CheckFault → Refusal
check_refusal check.Memory fault = refusal.Memory
check_refusal rule fault = refusal.Check fault

abbrev pub refusal_of : SchemaFault → Refusal
refusal_of (Load fault) = load_refusal fault.rule fault
refusal_of (Check fault) = check_refusal fault.rule fault

abbrev pub bind_refusal : BindRule → List ℕ → BindFault → Refusal
bind_refusal bind.Memory name fault = refusal.Memory
bind_refusal rule name fault = refusal.Bind name fault

abbrev pub file_refusal : FileFault → Refusal
file_refusal (InSchema fault) = refusal_of fault
file_refusal (NoBind name) = refusal.NoBind name
file_refusal (InBind name fault) = bind_refusal fault.rule name fault
