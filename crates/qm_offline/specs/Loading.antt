-- What loading a command line answers (this project's own rule).
use Rattle.std.specs.Prelude.{◌≡◌, ℕ, List, Option, Some, None, Result, Ok, Err}
use Rattle.qm_base.specs.Faults.{Rose}
use Rattle.qm_offline.specs.Causes.{MayLoad}
use Rattle.qapi_load.specs.{Causes.Failures, Files.NamedText}
use Rattle.qm_json.specs.Cleanness.{IsClean}
use Rattle.qapi_types.specs.{Prelude.HasPrelude, Texts.HasTexts, declared.parts.Parts.Parts}
use Rattle.qm_bind.specs.Goodness.{IsGoodBinding}
use Rattle.qm_core.specs.declared.world.World.{World}
use Rattle.qm_offline.specs.{Output.FileFault, Output.bind_name, Output.bind_over, Output.bind_text, Output.limits_of, Output.schema_of, Output.world_over, Refusals.file_refusal, Words.Words}
use Rattle.qm_offline.specs.declared.{loading.Loaded.Loaded, refusal.Refusal.Refusal}
use Rattle.qm_offline.specs.declared.refusal.Refusal.TheVariants as refusal

-- the schema begins with the definitions that stand before those of each schema, and its names are texts; a
-- text can spell its introspection; and the binding is good for it
pub record IsGoodWorld (world : World) : Type 0 where
  pub prelude : HasPrelude world.schema
  pub texts : HasTexts world.schema
  pub introspection : IsClean world.introspection
  pub binding : IsGoodBinding world.schema world.binding

-- words over the world of their files, or the first fault
abbrev pub loaded_over : Words → Result World FileFault → Result Loaded Refusal
loaded_over w (Ok world) = Ok record { command = w.command; world = world; limits = limits_of w.entries }
loaded_over w (Err fault) = Err (file_refusal fault)

-- the world of words over the files of the schema, and those of which one is the bind file
abbrev pub world_in : Words → List NamedText → List NamedText → Result World FileFault
world_in w files bind_files = world_over (bind_name w) (schema_of w files) (bind_text w.bind bind_files)

-- words over these files
abbrev pub loaded_of : Option Words → List NamedText → List NamedText → Result Loaded Refusal
loaded_of None files bind_files = Err refusal.Words
loaded_of (Some w) files bind_files = loaded_over w (world_in w files bind_files)

-- an answer that no want of memory and no failed read took the place of
abbrev pub IsAnswer : {A : Type 0} → Result A Refusal → Type 0
IsAnswer (Err (refusal.Library name)) = ⊥
IsAnswer (Err refusal.Memory) = ⊥
IsAnswer answer = Unit {0}

-- there are files of the schema, and files of which one is the bind file, over which this is the answer; where
-- the library tells its files, they are these
pub record LoadedFrom (tells : Option (List NamedText)) (words : Option Words) (result : Result Loaded Refusal) : Type 0 where
  pub files : List NamedText
  pub told : (told : List NamedText) → tells ≡ Some told → files ≡ told
  pub bind_files : List NamedText
  pub bind_told : (told : List NamedText) → tells ≡ Some told → bind_files ≡ told
  pub answer : IsAnswer result → result ≡ loaded_of words files bind_files

-- the same of the bind file alone, for a schema that has no fault
pub record BoundFrom (tells : Option (List NamedText)) (w : Words) (parts : Parts) (result : Result Loaded Refusal) : Type 0 where
  pub bind_files : List NamedText
  pub bind_told : (told : List NamedText) → tells ≡ Some told → bind_files ≡ told
  pub answer : IsAnswer result → result ≡ loaded_over w (bind_over parts (bind_name w) (bind_text w.bind bind_files))

-- reading the bind file or a file of the schema failed, and the refusal names it
pub record IsUnread (words : Option Words) (name : List ℕ) (before now : Failures) : Type 0 where
  pub rose : Rose before.count now.count
  pub named : now.name ≡ name
  pub may : MayLoad words name

-- reading fails exactly where the library's count of faults rises
abbrev pub HasCause : {A : Type 0} → Option Words → Result A Refusal → Failures → Failures → Type 0
HasCause words (Err (refusal.Library name)) before now = IsUnread words name before now
HasCause words answer before now = now ≡ before

-- it is what these words ask for, over files that have no fault; where the library tells its files, they are these
pub record IsLoaded (tells : Option (List NamedText)) (words : Option Words) (loaded : Loaded) : Type 0 where
  pub asked : Words
  pub words_ask : words ≡ Some asked
  pub files : List NamedText
  pub told : (told : List NamedText) → tells ≡ Some told → files ≡ told
  pub bind_files : List NamedText
  pub bind_told : (told : List NamedText) → tells ≡ Some told → bind_files ≡ told
  pub world : World
  pub world_is : world_in asked files bind_files ≡ Ok world
  pub value : loaded ≡ record { command = asked.command; world = world; limits = limits_of asked.entries }
