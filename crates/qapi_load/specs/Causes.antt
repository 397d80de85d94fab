-- The causes of an answer about a schema's files (this project's own rule).
use Rattle.std.specs.Prelude.{◌≡◌, ◌≢◌, ℕ, List, Result, Ok, Err}
use Rattle.qm_base.specs.Faults.{Rose}
use Rattle.qapi_load.specs.{declared.fault.LoadFault.LoadFault, declared.fault.LoadRule.TheVariants.ReadFault, Loading.memory_fault, Loading.read_fault}

-- an answer that no want of memory and no failed read took the place of
abbrev pub IsAnswer : {A : Type 0} → Result A LoadFault → Type 0
IsAnswer (Ok x) = Unit {0}
IsAnswer (Err fault) = (fault ≢ memory_fault) × (fault.rule ≢ ReadFault)

-- a library's count of faults, and the name of its latest failure
pub record Failures : Type 0 where
  pub count : ℕ
  pub name : List ℕ

-- reading fails exactly where the count of faults rises, and the fault names what could not be read
pub record IsCaused (fault : LoadFault) (before now : Failures) : Type 0 where
  pub rose : fault.rule ≡ ReadFault → Rose before.count now.count
  pub named : fault.rule ≡ ReadFault → fault ≡ read_fault now.name
  pub kept : fault.rule ≢ ReadFault → now ≡ before

abbrev pub HasCause : {A : Type 0} → Result A LoadFault → Failures → Failures → Type 0
HasCause (Ok x) before now = now ≡ before
HasCause (Err fault) before now = IsCaused fault before now
