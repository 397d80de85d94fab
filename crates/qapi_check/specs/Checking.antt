-- The table of a schema's files, or its first fault (QAPI code generation guide, "Schema syntax"; the order of faults is
-- this project's own rule).
use Rattle.std.specs.Prelude.{◌≡◌, ◌≢◌, ℕ, List, [], ◌∷◌, Option, Some, None, Result, Ok, Err}
use Rattle.qapi_define.specs.declared.definition.Definition.{Definition}
use Rattle.qapi_load.specs.{Causes.Failures, Causes.IsCaused, Causes.IsAnswer as IsLoaded, declared.fault.LoadFault.LoadFault, declared.fault.LoadRule.TheVariants.ReadFault, declared.source.Source.Source, Files.NamedText, Loading.sources_of}
use Rattle.qapi_load.specs.Loading.{memory_fault as load_memory}
use Rattle.qapi_rules.specs.{Blames.first_of, declared.fault.CheckFault.CheckFault, declared.fault.CheckRule.TheVariants.Memory}
use Rattle.qapi_types.specs.declared.parts.Parts.{Parts}
use Rattle.qapi_check.specs.{Passes.all_definitions, Passes.clash_fault, Passes.cycle_fault, Passes.names_fault, Passes.numbered, Passes.references_fault, declared.loading.SchemaFault.SchemaFault}
use Rattle.qapi_check.specs.declared.loading.SchemaFault.TheVariants as schema

-- the first fault, pass by pass
abbrev pub first_fault : List Definition → Option CheckFault
first_fault definitions = first_of (names_fault definitions ∷ references_fault definitions ∷ cycle_fault definitions ∷ clash_fault definitions ∷ [])

-- the fault, or else the table of the definitions
abbrev pub table_unless : Option CheckFault → List Definition → Result Parts CheckFault
table_unless (Some fault) definitions = Err fault
table_unless None definitions = Ok (numbered definitions)

-- the first fault of definitions, or their table
abbrev pub checked : List Definition → Result Parts CheckFault
checked definitions = table_unless (first_fault definitions) definitions

-- the first fault of expressions, or their table
abbrev pub checked_sources : List (List ℕ) → List Source → Result Parts CheckFault
checked_sources defines sources = checked (all_definitions defines sources)

-- want of memory, which is no fault of definitions
abbrev pub memory_fault : CheckFault
memory_fault = record { rule = Memory; file = []; line = 0; name = [] }

-- an answer that no want of memory took the place of
abbrev pub IsChecked : {A : Type 0} → Result A CheckFault → Type 0
IsChecked (Ok x) = Unit {0}
IsChecked (Err fault) = fault ≢ memory_fault

-- the expressions of the files from the main one on; none without one
abbrev pub sources_from : List NamedText → Option (List ℕ) → Result (List Source) LoadFault
sources_from files (Some main) = sources_of files main
sources_from files None = Ok []

abbrev pub told_check : Result Parts CheckFault → Result Parts SchemaFault
told_check (Ok parts) = Ok parts
told_check (Err fault) = Err (schema.Check fault)

abbrev pub told_load : List (List ℕ) → Result (List Source) LoadFault → Result Parts SchemaFault
told_load defines (Ok sources) = told_check (checked_sources defines sources)
told_load defines (Err fault) = Err (schema.Load fault)

-- the first fault of loading a schema's files, or the first of their definitions, or their table
abbrev pub table_of : List NamedText → Option (List ℕ) → List (List ℕ) → Result Parts SchemaFault
table_of files main defines = told_load defines (sources_from files main)

-- there are files of which these are the expressions; where the library tells its files, they are these
pub record SourcesFrom (tells : Option (List NamedText)) (main : Option (List ℕ)) (result : Result (List Source) LoadFault) : Type 0 where
  pub files : List NamedText
  pub told : (told : List NamedText) → tells ≡ Some told → files ≡ told
  pub answer : IsLoaded result → result ≡ sources_from files main

-- an answer that no want of memory and no failed read took the place of
abbrev pub IsAnswer : {A : Type 0} → Result A SchemaFault → Type 0
IsAnswer (Ok x) = Unit {0}
IsAnswer (Err (schema.Load fault)) = (fault ≢ load_memory) × (fault.rule ≢ ReadFault)
IsAnswer (Err (schema.Check fault)) = fault ≢ memory_fault

-- reading fails exactly where the library's count of faults rises; nothing else changes it
abbrev pub HasCause : {A : Type 0} → Result A SchemaFault → Failures → Failures → Type 0
HasCause (Ok x) before now = now ≡ before
HasCause (Err (schema.Load fault)) before now = IsCaused fault before now
HasCause (Err (schema.Check fault)) before now = now ≡ before

-- there are files of which this is the table or the first fault; where the library tells its files, they are these
pub record SchemaFrom (tells : Option (List NamedText)) (main : Option (List ℕ)) (defines : List (List ℕ)) (result : Result Parts SchemaFault) : Type 0 where
  pub files : List NamedText
  pub told : (told : List NamedText) → tells ≡ Some told → files ≡ told
  pub answer : IsAnswer result → result ≡ table_of files main defines

-- reading a file failed
abbrev pub IsUnread : {A : Type 0} → Result A SchemaFault → Type 0
IsUnread (Ok x) = ⊥
IsUnread (Err (schema.Load fault)) = fault.rule ≡ ReadFault
IsUnread (Err (schema.Check fault)) = ⊥
